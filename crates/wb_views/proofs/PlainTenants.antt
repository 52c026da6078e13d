-- No number in the bodies that show what a tenant is set up with is kept as a floating one.
use Rattle.std.proofs.Common.{◌≡◌, ℕ, ℤ, pos, negsuc, false, filter, refl}
use Rattle.std.proofs.lemmas.Bool.{or_from}
use Rattle.serde_json.specs.Data.{number, string}
use Rattle.serde_json.specs.Find.{of_integer}
use Rattle.serde_json.specs.Written.{has_float}
use Rattle.wb_base.specs.declared.form.Format.TheVariants.{Plain}
use Rattle.wb_form.proofs.NoFloats.{whole-form}
use Rattle.wb_json.proofs.NoFloats.{in-list}
use Rattle.wb_model.specs.declared.registry.ContextItem.{ContextItem}
use Rattle.wb_model.specs.declared.registry.FormItem.{FormItem}
use Rattle.wb_model.specs.declared.registry.TenantItem.{TenantItem}
use Rattle.wb_model.specs.declared.registry.UserItem.{UserItem}
use Rattle.wb_model.specs.Json.{whole}
use Rattle.wb_model.specs.Names.{right_names}
use Rattle.wb_model.specs.Tables.{Registry}
use Rattle.wb_model.specs.TenantViews.{public_context, public_view, context_view, admin_context, admin_form, admin_user, admin_settings, newest_forms, admin_view}

pub in-public : (g : Registry) → has_float (public_view g) ≡ false
unfolding public_view
in-public g = or_from _ _ (in-list public_context (λ c. refl) (filter (λ (c : ContextItem). c.is_open) g.contexts)) refl

pub in-context : (c : ContextItem) (form : FormItem) → has_float (context_view c form) ≡ false
unfolding context_view
in-context c form = or_from _ _ (whole-form Plain form.form) refl

in-admin_context : (c : ContextItem) → has_float (admin_context c) ≡ false
in-admin_context c = or_from _ _ (in-list whole (λ n. refl) c.recipients) refl

in-admin_user : (x : UserItem) → has_float (admin_user x) ≡ false
in-admin_user x = or_from _ _ (in-list string (λ text. refl) (right_names x.may)) refl

in-integer : (z : ℤ) → has_float (number (of_integer z)) ≡ false
in-integer (pos n) = refl
in-integer (negsuc n) = refl

in-settings : (s : TenantItem) → has_float (admin_settings s) ≡ false
in-settings s = or_from _ _ (in-integer s.offset) refl

pub in-admin : (g : Registry) (last : ℕ) → has_float (admin_view g last) ≡ false
unfolding admin_view
in-admin g last =
    let contexts = in-list admin_context in-admin_context g.contexts in
    let forms = in-list admin_form (λ x. refl) (newest_forms g.forms) in
    let settings = in-settings g.settings in
    let users = in-list admin_user in-admin_user g.users in
    or_from _ _ contexts (or_from _ _ forms (or_from _ _ settings (or_from _ _ users refl)))
