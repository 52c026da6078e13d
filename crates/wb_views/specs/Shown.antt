-- What the calls that show a tenant's contexts and forms ask and give.
use Rattle.std.specs.Prelude.{◌≡◌, ◌==◌, ℕ, true, List, filter, map, Some, is_some}
use Rattle.serde_json.specs.Data.{Data}
use Rattle.serde_json.specs.Written.{compact_text}
use Rattle.wb_model.specs.declared.registry.ContextItem.{ContextItem}
use Rattle.wb_model.specs.declared.registry.FormItem.{FormItem}
use Rattle.wb_model.specs.AskingForms.{asking_form}
use Rattle.wb_model.specs.Tables.{Registry, context, newest_form}
use Rattle.wb_model.specs.TenantViews.{context_view, admin_form, newest_forms}

-- the context of a number is there, and so is the form in which it asks
abbrev pub HasForm : Registry → ℕ → Type 0
HasForm g c = is_some (asking_form (context c g.contexts) g.forms) ≡ true

-- the text shows the context of a number with the newest version of its form
abbrev pub ShowsContext : Registry → ℕ → List ℕ → Type 0
ShowsContext g c text = (x : ContextItem) (form : FormItem) → context c g.contexts ≡ Some x → newest_form x.form g.forms ≡ Some form → text ≡ compact_text (context_view x form)

-- the objects of a tenant's forms among these, each in its newest version
unfoldable pub forms_shown : ℕ → List FormItem → List Data
forms_shown t forms = map admin_form (newest_forms (filter (λ (x : FormItem). x.tenant == t) forms))
