use Rattle.std.proofs.Common.{◌≡◌, ℕ, sym, subst}
use Rattle.wb_custody.specs.SealedAnswers.{answers_of}
use Rattle.wb_model.specs.Host.{sealed_under}
use Rattle.wb_tables.specs.Kept.{sealed_of}
use Rattle.wb_tables.proofs.CaseLists.{put_under}
use Rattle.wb_commands.proofs.parts.put_secret.Goals as goal

pub returns-in-Some-clause-here : goal.returns-in-Some-clause-here
returns-in-Some-clause-here c =
    let put = put_under c.args.sealed.now.items c.put.new.self.items c.args.tenant c.args.number c.in-Some.secret c.put.ensures.here c.put.ensures.others in
    subst (λ secret. (n : ℕ) → answers_of c.put.new.self.items c.args.tenant n ≡ sealed_under c.args.number secret (sealed_of c.args.sealed.now.items c.args.tenant) n) (sym c.in-Some.is) put
