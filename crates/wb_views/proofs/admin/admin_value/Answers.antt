use Rattle.std.proofs.Common.{◌==◌, filter, refl, ap, ◌∙◌}
use Rattle.serde_json.specs.Data.{object}
use Rattle.serde_json.specs.View.{members_view}
use Rattle.serde_json.proofs.Views.{view-Object}
use Rattle.wb_model.specs.declared.registry.ContextItem.{ContextItem}
use Rattle.wb_model.specs.declared.registry.FormItem.{FormItem}
use Rattle.wb_model.specs.declared.registry.Lists.{Lists}
use Rattle.wb_model.specs.declared.registry.UserItem.{UserItem}
use Rattle.wb_model.specs.Json.{list_of}
use Rattle.wb_model.specs.TenantViews.{admin_context, admin_form, admin_settings, admin_user, newest_forms, admin_view}
use Rattle.wb_views.proofs.Members.{then_put}
use Rattle.wb_views.proofs.admin.admin_value.Goals as goal

-- each member, from the last that was put on, with what it shows
pub returns : goal.returns
unfolding admin_view
returns c =
    let t = c.args.tenant in
    let all = c.lists-lists.ensures.all in
    view-Object c.put_value-4.new.map ∙ ap object
    (then_put _ _ _ _ _ _ c.in_ok-put_value-4.ensures (c.in_ok-contexts.ensures ∙ ap (λ xs. list_of admin_context (filter (λ (x : ContextItem). x.tenant == t) xs)) (c.as_slice-3.ensures ∙ ap (λ (ls : Lists). ls.contexts) all))
    (then_put _ _ _ _ _ _ c.in_ok-put_value-3.ensures (c.in_ok-forms.ensures ∙ ap (λ xs. list_of admin_form (newest_forms (filter (λ (x : FormItem). x.tenant == t) xs))) (c.as_slice-2.ensures ∙ ap (λ (ls : Lists). ls.forms) all))
    (then_put _ _ _ _ _ _ c.in_ok-put_whole.ensures refl
    (then_put _ _ _ _ _ _ c.in_ok-put_value-2.ensures (c.in_ok-settings.ensures ∙ ap admin_settings c.settings.ensures)
    (then_put _ _ _ _ _ _ c.in_ok-put_value.ensures (c.in_ok-users.ensures ∙ ap (λ xs. list_of admin_user (filter (λ (x : UserItem). x.tenant == t) xs)) (c.as_slice.ensures ∙ ap (λ (ls : Lists). ls.users) all)) (ap members_view c.new-map.ensures.empty))))))
