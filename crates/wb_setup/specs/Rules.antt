-- The rules of a setup after the first, each over the whole setup: which stands, and the least that is broken.
use Rattle.std.specs.Prelude.{ℕ, ◌==◌, ◌&&◌, Bool, List, [], ◌∷◌, ◌++◌, Option, Some, is_some, option_map, option_and_then}
use Rattle.std.specs.List.{list_all, list_any}
use Rattle.std.specs.Result.{result_ok}
use Rattle.wb_base.specs.declared.callers.Role.TheVariants.{Recipient}
use Rattle.wb_base.specs.declared.form.Form.{Form}
use Rattle.wb_base.specs.AnswerList.{is_text}
use Rattle.wb_model.specs.declared.registry.FormItem.{FormItem}
use Rattle.wb_model.specs.Bodies.{json, form}
use Rattle.wb_model.specs.Fits.{are_distinct}
use Rattle.wb_model.specs.SetUps.{are_apart}
use Rattle.wb_model.specs.Tables.{same_role}
use Rattle.wb_setup.specs.declared.given.GivenUser.{GivenUser}
use Rattle.wb_setup.specs.declared.given.GivenForm.{GivenForm}
use Rattle.wb_setup.specs.declared.given.GivenContext.{GivenContext}
use Rattle.wb_setup.specs.declared.given.GivenTenant.{GivenTenant}

abbrev pub same_tenant : GivenTenant → GivenTenant → Bool
same_tenant a b = a.id == b.id

abbrev pub same_user : GivenUser → GivenUser → Bool
same_user a b = a.id == b.id

abbrev pub same_name : GivenUser → GivenUser → Bool
same_name a b = is_text a.name b.name

abbrev pub same_form : GivenForm → GivenForm → Bool
same_form a b = a.id == b.id

abbrev pub same_context : GivenContext → GivenContext → Bool
same_context a b = a.id == b.id

-- the form that a text is, as JSON without floating numbers
abbrev pub form_in : GivenForm → Option Form
form_in f = option_and_then (λ d. result_ok (form d)) (json f.json)

-- it as version 1 of a tenant's form
abbrev pub first_version : ℕ → GivenForm → Option FormItem
first_version t f = option_map (λ form. record { tenant = t; id = f.id; version = 1; form = form }) (form_in f)

abbrev pub first_versions : ℕ → List GivenForm → Option (List FormItem)
first_versions t [] = Some []
first_versions t (f ∷ fs) = option_and_then (λ x. option_map (λ xs. x ∷ xs) (first_versions t fs)) (first_version t f)

-- the forms of all tenants, where each is one
abbrev pub forms_of : List GivenTenant → Option (List FormItem)
forms_of [] = Some []
forms_of (t ∷ ts) = option_and_then (λ xs. option_map (λ ys. xs ++ ys) (forms_of ts)) (first_versions t.id t.forms)

abbrev pub is_form_of : GivenContext → GivenForm → Bool
is_form_of c f = f.id == c.form

-- a user of this id is a recipient
abbrev pub is_reader : ℕ → GivenUser → Bool
is_reader u x = (x.id == u) && same_role x.role Recipient

abbrev pub has_form : GivenTenant → GivenContext → Bool
has_form t c = list_any (is_form_of c) t.forms

abbrev pub has_reader : GivenTenant → ℕ → Bool
has_reader t u = list_any (is_reader u) t.users

abbrev pub fits_readers : GivenTenant → GivenContext → Bool
fits_readers t c = are_distinct c.recipients && list_all (has_reader t) c.recipients

-- 2: the ids of tenants are distinct
abbrev pub rule_2 : List GivenTenant → Bool
rule_2 ts = are_apart same_tenant ts

-- 3: the ids of users are distinct in a tenant
abbrev pub rule_3 : List GivenTenant → Bool
rule_3 ts = list_all (λ t. are_apart same_user t.users) ts

-- 4: the names of users are distinct in a tenant
abbrev pub rule_4 : List GivenTenant → Bool
rule_4 ts = list_all (λ t. are_apart same_name t.users) ts

-- 5: the ids of forms are distinct in a tenant
abbrev pub rule_5 : List GivenTenant → Bool
rule_5 ts = list_all (λ t. are_apart same_form t.forms) ts

-- 6: each form's text is JSON without floating numbers, and a form without a fault
abbrev pub rule_6 : List GivenTenant → Bool
rule_6 ts = is_some (forms_of ts)

-- 7: the ids of contexts are distinct in a tenant
abbrev pub rule_7 : List GivenTenant → Bool
rule_7 ts = list_all (λ t. are_apart same_context t.contexts) ts

-- 8: each context's form is there
abbrev pub rule_8 : List GivenTenant → Bool
rule_8 ts = list_all (λ t. list_all (has_form t) t.contexts) ts

-- 9: each context's recipients are distinct, and users with the role of recipient
abbrev pub rule_9 : List GivenTenant → Bool
rule_9 ts = list_all (λ t. list_all (fits_readers t) t.contexts) ts
