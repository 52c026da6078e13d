-- The starter tenant, on which rows are computed: four users, one form and two contexts.
use Rattle.wb_base.specs.Calendars.{plain}
use Rattle.std.specs.Prelude.{ℕ, List, [], ◌∷◌, Bool, true, false, None, pos, codes}
use Rattle.std.proofs.Common.{arith, refl}
use Rattle.wb_base.specs.declared.callers.Role.{Role}
use Rattle.wb_base.specs.declared.callers.Role.TheVariants as roles
use Rattle.wb_base.specs.declared.form.Form.{Form}
use Rattle.wb_base.specs.declared.form.Field.{Field}
use Rattle.wb_base.specs.declared.form.FieldKind.TheVariants as kinds
use Rattle.wb_base.specs.declared.form.Trigger.TheVariants as triggers
use Rattle.wb_base.specs.declared.words.Salt.{Salt}
use Rattle.wb_model.specs.declared.registry.ContextItem.{ContextItem}
use Rattle.wb_model.specs.declared.registry.UserItem.{UserItem}
use Rattle.wb_base.specs.Secrets.{digest}
use Rattle.wb_model.specs.Tables.{Registry}
use Rattle.wb_model.specs.Host.{Tables}
use Rattle.wb_model.specs.Pasts.{AllOpened}
use Rattle.wb_model.specs.Legal.{IsSound}
use Rattle.wb_model.specs.Opened.{AreOpened}
use Rattle.wb_model.proofs.EmptyOpenings.{empty_opened}

-- ---- the form

-- the form as JSON, defaults left out
unfoldable pub starter_form_text : List ℕ
starter_form_text = codes "{\"steps\":[{\"title\":\"Report\",\"fields\":[{\"id\":\"what\",\"label\":\"What happened\",\"kind\":\"text\",\"required\":true},{\"id\":\"cat\",\"label\":\"Category\",\"kind\":\"choice\",\"options\":[{\"id\":\"fraud\",\"label\":\"Fraud\"},{\"id\":\"other\",\"label\":\"Other\"}]},{\"id\":\"amount\",\"label\":\"Amount\",\"kind\":\"whole\",\"show\":{\"all\":[{\"field\":\"cat\",\"option\":\"fraud\"}]}},{\"id\":\"doc\",\"label\":\"Document\",\"kind\":\"file\"}]},{\"title\":\"Identity\",\"fields\":[{\"id\":\"name\",\"label\":\"Name\",\"kind\":\"text\",\"required\":true,\"identity\":true},{\"id\":\"phone\",\"label\":\"Phone\",\"kind\":\"text\",\"identity\":true}]}]}"

abbrev pub asks_text : List ℕ → List ℕ → Bool → Bool → Field
asks_text id label required identity = record { id = id; label = label; kind = kinds.Text 4_096; required = required; identity = identity; show = triggers.Always }

unfoldable pub starter_form : Form
starter_form = record {
  steps =
      record {
        title = codes "Report";
        fields =
            asks_text (codes "what") (codes "What happened") true false ∷
            record { id = codes "cat"; label = codes "Category"; kind = kinds.Choice (record { id = codes "fraud"; label = codes "Fraud" } ∷ record { id = codes "other"; label = codes "Other" } ∷ []); required = false; identity = false; show = triggers.Always } ∷
            record { id = codes "amount"; label = codes "Amount"; kind = kinds.Whole; required = false; identity = false; show = triggers.All (record { field = codes "cat"; option = codes "fraud" } ∷ []) } ∷
            record { id = codes "doc"; label = codes "Document"; kind = kinds.File; required = false; identity = false; show = triggers.Always } ∷ [];
      } ∷
      record {
        title = codes "Identity";
        fields =
            asks_text (codes "name") (codes "Name") true true ∷
            asks_text (codes "phone") (codes "Phone") false true ∷ [];
      } ∷ [];
}

-- ---- the tenant

abbrev pub starter_salt : Salt
starter_salt = record { 0 = 0 ∷ 1 ∷ 2 ∷ 3 ∷ 4 ∷ 5 ∷ 6 ∷ 7 ∷ 8 ∷ 9 ∷ 10 ∷ 11 ∷ 12 ∷ 13 ∷ 14 ∷ 15 ∷ [] }

abbrev pub starter_user : ℕ → List ℕ → Role → List ℕ → Bool → UserItem
starter_user id name role password may = record {
  tenant = 1;
  id = id;
  disabled = 0;
  enabled = true;
  may = record { delete = false; postpone = may; share = may; transfer = may };
  name = name;
  role = role;
  secret = digest starter_salt password;
}

abbrev pub starter_context : ℕ → List ℕ → ℕ → ℕ → ContextItem
starter_context id name retention reader = record { tenant = 1; id = id; form = 1; name = name; is_open = true; recipients = reader ∷ []; retention = retention }

unfoldable pub starter_registry : Registry
starter_registry = record {
  settings = record { tenant = 1; external = false; calendar = plain; name = codes "Harbour City"; notice_days = 7; offset = pos 0; quota = 50; salt = starter_salt };
  users =
      starter_user 1 (codes "ada") roles.Recipient (codes "ada-pass") true ∷
      starter_user 2 (codes "ben") roles.Recipient (codes "ben-pass") false ∷
      starter_user 3 (codes "cleo") roles.Custodian (codes "cleo-pass") false ∷
      starter_user 4 (codes "dan") roles.Admin (codes "dan-pass") false ∷ [];
  forms = record { tenant = 1; id = 1; version = 1; form = starter_form } ∷ [];
  contexts = starter_context 1 (codes "Fraud") 30 1 ∷ starter_context 2 (codes "Safety") 10 2 ∷ [];
}

abbrev pub starter_tables : Tables
starter_tables = record {
  plain = record { registry = starter_registry; numbering = record { at = 0; drawn = 0; last = 0 }; cases = []; sessions = [] };
  sealed = λ n. None;
}

pub starter_sound : IsSound starter_registry
unfolding starter_registry
starter_sound = record { notice = omega arith; contexts = ((omega arith, omega arith, refl), ((omega arith, omega arith, refl), tt)) }

pub starter_opened : AreOpened 0 starter_tables
unfolding starter_registry
starter_opened = empty_opened 0 starter_registry starter_sound ((omega arith, omega arith), tt) (record { users = refl; forms = refl; contexts = refl })

-- its opening: at moment 0, with one tenant
unfoldable pub starter_opening : AllOpened
unfolding starter_registry
starter_opening = record {
  at = 0;
  tenants = 1 ∷ [];
  ids = refl;
  tables = λ t. starter_tables;
  sound = λ t. starter_opened;
}
