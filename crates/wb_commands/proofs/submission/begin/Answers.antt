use Rattle.std.proofs.Common.{◌<◌, [], ◌∷◌, sym, ap, ◌∙◌, subst}
use Rattle.std.specs.Str.{IsUtf8}
use Rattle.wb_base.specs.Days.{day_of}
use Rattle.wb_model.specs.Access.{requests}
use Rattle.wb_model.specs.Host.{drawn}
use Rattle.wb_model.specs.Tables.{drawn_on}
use Rattle.wb_model.specs.declared.entry.Entry.{Entry}
use Rattle.wb_model.specs.declared.numbering.Numbering.{Numbering}
use Rattle.wb_model.specs.declared.registry.TenantItem.{TenantItem}
use Rattle.wb_tables.specs.Receipted.{is_submitted}
use Rattle.wb_views.proofs.AsciiBytes.{IsUtf8-receipt_text}
use Rattle.wb_commands.proofs.Submissions.{asks_none, submits}
use Rattle.wb_commands.proofs.submission.begin.Goals as goal

pub next_numbering-numbering-requires-clause-today : goal.next_numbering-numbering-requires-clause-today
next_numbering-numbering-requires-clause-today c = subst (λ (s : TenantItem). drawn_on (day_of c.args.at.now.time s.offset) s c.args.tenancy.now.numbering < 4_294_967_295) (sym c.settings.ensures) c.requires.today

pub submitted-requires : goal.submitted-requires
submitted-requires c = subst IsUtf8 (sym c.requires.receipt) (IsUtf8-receipt_text c.args.at.now.words)

pub returns-clause-fit : goal.returns-clause-fit
returns-clause-fit c =
    let draw = c.next_numbering-numbering.ensures ∙ ap (λ (s : TenantItem). drawn c.args.at.now.time s c.args.tenancy.now.numbering) c.settings.ensures in
    let begun = c.in_ok-case.ensures ∙ ap (λ (e : Entry). e ∷ []) c.in_ok-entry.ensures in
    ((c.in-Some.ensures.1 ∙ ap (λ (n : Numbering). n.last) draw, draw), (_, begun), ap requests begun ∙ asks_none _ _ _ _ _, ap is_submitted begun ∙ submits _ _ _ _ _)
