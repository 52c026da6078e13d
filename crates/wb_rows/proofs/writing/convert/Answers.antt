use Rattle.std.proofs.Common.{◌≡◌, ◌++◌, ◌∷◌, [], map, sym, ap, ◌∙◌}
use Rattle.std.proofs.lemmas.Bool.{and_parts}
use Rattle.std.specs.List.{list_all}
use Rattle.std.specs.Prelude.{◌&&◌}
use Rattle.wb_base.specs.declared.form.Format.TheVariants.{Weighed}
use Rattle.wb_base.specs.declared.rows.Change.TheVariants.{Put}
use Rattle.wb_model.specs.declared.registry.ContextItem.{ContextItem}
use Rattle.wb_model.specs.declared.registry.FormItem.{FormItem}
use Rattle.wb_model.specs.declared.registry.Lists.{Lists}
use Rattle.wb_model.specs.declared.registry.UserItem.{UserItem}
use Rattle.wb_model.specs.Rows.{converted, format_row}
use Rattle.wb_model.specs.SetUps.{has_tenant}
use Rattle.wb_rows.specs.Held.{held_by}
use Rattle.wb_rows.specs.HeldRows.{form_row}
use Rattle.wb_rows.specs.Openings.{tenancies_of}
use Rattle.wb_rows.proofs.RowsByTenant.{forms-by-tenant}
use Rattle.wb_rows.proofs.writing.convert.Goals as goal

pub returns-in_ok-put_forms-in-Plain : goal.returns-in_ok-put_forms-in-Plain
returns-in_ok-put_forms-in-Plain c =
    let h = held_by c.args.tables.now in
    let lists = h.lists in
    let owned = (and_parts (list_all (λ (x : UserItem). has_tenant lists x.tenant) lists.users && list_all (λ (x : FormItem). has_tenant lists x.tenant) lists.forms) (list_all (λ (x : ContextItem). has_tenant lists x.tenant) lists.contexts) c.requires.owned).0 in
    let forms_owned = (and_parts (list_all (λ (x : UserItem). has_tenant lists x.tenant) lists.users) (list_all (λ (x : FormItem). has_tenant lists x.tenant) lists.forms) owned).1 in
    let forms = c.as_slice.ensures ∙ ap (λ (l : Lists). l.forms) c.lists.ensures.all in
    let begun : c.push.new.self.items ≡ Put format_row ∷ [] = c.in_ok-push-in-Plain.ensures.items ∙ (λ i. c.new-batch.ensures.items i ++ Put (c.in_ok-format_row-in-Plain.ensures i) ∷ []) in
    c.in_ok-put_forms-in-Plain.ensures
    ∙ (λ i. begun i ++ map Put (map (form_row Weighed) (forms i)))
    ∙ ap (λ rs. Put format_row ∷ map Put rs) (sym (forms-by-tenant Weighed h c.lists.ensures.order forms_owned))
    ∙ ap (λ format. converted format (tenancies_of h)) (sym c.in-Plain.is)
