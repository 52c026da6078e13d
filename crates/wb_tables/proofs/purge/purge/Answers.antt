use Rattle.std.proofs.Common.{◌≡◌, None, map, filter, refl, ap, ◌∙◌, subst}
use Rattle.std.specs.Prelude.{if◌then◌else◌}
use Rattle.wb_custody.specs.SealedAnswers.{answers_of}
use Rattle.wb_model.specs.Tables.{is_there}
use Rattle.wb_tables.specs.Kept.{case_of, lives_on}
use Rattle.wb_tables.specs.Places.{gone_under}
use Rattle.wb_tables.proofs.Purges.{gone_is}
use Rattle.wb_tables.proofs.purge.purge.Goals as goal

pub returns-clause-here : goal.returns-clause-here
returns-clause-here c = λ n.
    let cs = map case_of c.args.tenancy.now.cases.items in
    let a = answers_of c.args.sealed.now.items c.args.tenancy.now.configuration.tenant n in
    subst (λ t. answers_of c.drop_dead-has_gone.new.sealed.items t n ≡ gone_under n c.today_at-today.result cs (answers_of c.args.sealed.now.items t n)) c.tenant-tenant.ensures (c.drop_dead-has_gone.ensures.here n) ∙ (gone_is n c.today_at-today.result cs a c.requires.1.plain.cases (c.requires.1.unsealed n)
    ∙ ap (λ d. if is_there n (filter (lives_on d) cs) then a else None) c.today_at-today.ensures)

pub returns-clause-kept : goal.returns-clause-kept
returns-clause-kept c = record {
  configuration = refl;
  cases = c.drop_dead-has_gone.ensures.reports ∙ ap (λ d. filter (λ r. lives_on d (case_of r)) c.args.tenancy.now.cases.items) c.today_at-today.ensures;
  room = c.drop_dead-has_gone.ensures.room;
  logins = c.drop_ended.ensures.kept;
}
