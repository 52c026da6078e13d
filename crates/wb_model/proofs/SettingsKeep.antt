-- A setting keeps the rules of what a tenant is set up with, and all that trails name stays there.
use Rattle.std.proofs.Common.{◌≡◌, ℕ, ◌+◌, Bool, true, false, cond, eqb, not, List, length, Option, Some, None, refl, ap, ◌∙◌, subst, arith}
use Rattle.std.specs.Prelude.{find, is_some, nat_le, ◌&&◌, ◌||◌, ◌==◌}
use Rattle.std.specs.List.{list_all, list_any}
use Rattle.std.specs.Option.{option_map_or}
use Rattle.std.proofs.lemmas.Bool.{and_parts, and_from}
use Rattle.std.proofs.lemmas.Bool.Decides.{nat_tests}
use Rattle.wb_base.specs.declared.callers.Role.{Role}
use Rattle.wb_base.specs.declared.callers.Role.TheVariants.{Recipient}
use Rattle.wb_base.specs.AnswerList.{Answered}
use Rattle.wb_model.specs.declared.entry.Actor.{Actor}
use Rattle.wb_model.specs.declared.entry.Actor.TheVariants as actors
use Rattle.wb_model.specs.declared.entry.Entry.{Entry}
use Rattle.wb_model.specs.declared.entry.Deed.{Deed}
use Rattle.wb_model.specs.declared.registry.ContextItem.{ContextItem}
use Rattle.wb_model.specs.declared.registry.FormItem.{FormItem}
use Rattle.wb_model.specs.declared.registry.UserItem.{UserItem}
use Rattle.wb_model.specs.Trails as trails
use Rattle.wb_model.specs.Trails.{context_in}
use Rattle.wb_model.specs.Tables.{Registry, Case, Session, Who, TheUser, TheReporter, user, context, same_role}
use Rattle.wb_model.specs.AskingForms.{form_of_trail}
use Rattle.wb_model.specs.Settings.{Setting, OfTenant, OfUser, OfContext, OfForm, form_key, is_recipient, configured}
use Rattle.wb_model.specs.SetUps.{is_context_item}
use Rattle.wb_model.specs.Fits.{fits_settings}
use Rattle.wb_model.specs.KeptRules.{role_of, is_of_channel, is_doer, users_in, is_named, has_public_answers, are_valid_after}
use Rattle.wb_model.specs.Opened.{AreOrdered}
use Rattle.wb_model.specs.Host.{Sealed}
use Rattle.wb_model.specs.Readable.{is_own_settings, is_own_user, is_own_form, is_own_context, follows_in, has_id_of, IsOwn, is_stored, is_entry_of, are_sealed, is_readable_trail, is_readable, is_of_role, has_role, is_right_session}
use Rattle.wb_model.proofs.ItemPuts.{all_more, with_item, put_all, put_found, user_id, has_name, names_put, is_version, has_key, version_found, some_put}

-- ---- what a registry keeps of another

pub record Grows (g h : Registry) : Type 0 where
  -- it is the same channel
  pub channel : h.settings.external ≡ g.settings.external
  -- each user is there, with its role
  pub users : (u : ℕ) (x : UserItem) → user u g.users ≡ Some x → (y : UserItem) × (user u h.users ≡ Some y) × (y.role ≡ x.role)
  -- each context is there
  pub contexts : (c : ℕ) → is_some (context c g.contexts) ≡ true → is_some (context c h.contexts) ≡ true
  -- each form version is there as it was
  pub versions : (i v : ℕ) (x : FormItem) → find (is_version i v) g.forms ≡ Some x → find (is_version i v) h.forms ≡ Some x

pub same_grows : (g : Registry) → Grows g g
same_grows g = record { channel = refl; users = λ u x e. (x, e, refl); contexts = λ c e. e; versions = λ i v x e. e }

some_is : {X : Type 0} (o : Option X) → is_some o ≡ true → (x : X) × (o ≡ Some x)
some_is None e = absurd (grind (arith, e))
some_is (Some x) e = (x, refl)

module _ (g h : Registry) (grows : Grows g h) where
  pub role_stays : (role : Role) (u : ℕ) → is_of_role g.users role u ≡ true → is_of_role h.users role u ≡ true
  role_stays role u is = by (user u g.users) refl is
    where
      by : (o : Option UserItem) → user u g.users ≡ o → option_map_or (λ (x : UserItem). same_role x.role role) o false ≡ true → is_of_role h.users role u ≡ true
      by None e f = absurd (grind (arith, f))
      by (Some x) e f = let k = grows.users u x e in ap (λ o. option_map_or (λ (y : UserItem). same_role y.role role) o false) k.1 ∙ (ap (λ r. same_role r role) k.2 ∙ f)

  pub user_stays : (u : ℕ) → is_some (user u g.users) ≡ true → is_some (user u h.users) ≡ true
  user_stays u is = let x = some_is (user u g.users) is in let k = grows.users u x.0 x.1 in ap is_some k.1

  doer_stays : (d : Deed) (by : Actor) → is_doer g.users d by ≡ true → is_doer h.users d by ≡ true
  doer_stays d actors.Reporter is = refl
  doer_stays d (actors.User u) is = role_stays (role_of d) u is

  context_stays : (o : Option ℕ) → option_map_or (λ c. is_some (context c g.contexts)) o true ≡ true → option_map_or (λ c. is_some (context c h.contexts)) o true ≡ true
  context_stays None is = refl
  context_stays (Some c) is = grows.contexts c is

  pub entry_stays : (e : Entry) → is_entry_of g e ≡ true → is_entry_of h e ≡ true
  entry_stays e is =
      let whole = and_parts (is_named g e) (is_stored e.deed) is in
      let names = and_parts (is_of_channel g.settings.external e.deed && is_doer g.users e.deed e.by && list_all (λ u. is_some (user u g.users)) (users_in e.deed)) (option_map_or (λ c. is_some (context c g.contexts)) (context_in e.deed) true) whole.0 in
      let two = and_parts (is_of_channel g.settings.external e.deed && is_doer g.users e.deed e.by) (list_all (λ u. is_some (user u g.users)) (users_in e.deed)) names.0 in
      let own = and_parts (is_of_channel g.settings.external e.deed) (is_doer g.users e.deed e.by) two.0 in
      and_from _ _ (and_from _ _ (and_from _ _ (and_from _ _ (ap (λ b. is_of_channel b e.deed) grows.channel ∙ own.0) (doer_stays e.deed e.by own.1)) (all_more (λ u. is_some (user u g.users)) (λ u. is_some (user u h.users)) (users_in e.deed) user_stays two.1)) (context_stays (context_in e.deed) names.1)) whole.1

  form_stays : (trail : List Entry) (x : FormItem) → form_of_trail trail g.forms ≡ Some x → form_of_trail trail h.forms ≡ Some x
  form_stays trail x e = grows.versions (trails.form trail) (trails.version trail) x e

  by_form : (P : FormItem → Bool) (trail : List Entry) → option_map_or P (form_of_trail trail g.forms) false ≡ true → option_map_or P (form_of_trail trail h.forms) false ≡ true
  by_form P trail is = by (form_of_trail trail g.forms) refl is
    where
      by : (o : Option FormItem) → form_of_trail trail g.forms ≡ o → option_map_or P o false ≡ true → option_map_or P (form_of_trail trail h.forms) false ≡ true
      by None e f = absurd (grind (arith, f))
      by (Some x) e f = ap (λ o. option_map_or P o false) (form_stays trail x e) ∙ f

  valid_stays : (trail : List Entry) (o : Option Answered) → are_valid_after g.forms trail o ≡ true → are_valid_after h.forms trail o ≡ true
  valid_stays trail None is = refl
  valid_stays trail (Some given) is = let parts = and_parts (not (length given == 0)) _ is in and_from _ _ parts.0 (by_form _ trail parts.1)

  pub trail_stays : (trail : List Entry) (secret : Option Answered) → is_readable_trail g trail secret ≡ true → is_readable_trail h trail secret ≡ true
  trail_stays trail secret is =
      let a = and_parts (list_all (is_entry_of g) trail && has_public_answers g.forms trail && are_valid_after g.forms trail secret) (are_sealed secret) is in
      let b = and_parts (list_all (is_entry_of g) trail && has_public_answers g.forms trail) (are_valid_after g.forms trail secret) a.0 in
      let c = and_parts (list_all (is_entry_of g) trail) (has_public_answers g.forms trail) b.0 in
      and_from _ _ (and_from _ _ (and_from _ _ (all_more (is_entry_of g) (is_entry_of h) trail entry_stays c.0) (by_form _ trail c.1)) (valid_stays trail secret b.1)) a.1

  who_stays : (role : Role) (w : Who) → has_role g.users role w ≡ true → has_role h.users role w ≡ true
  who_stays role (TheUser u) is = role_stays role u is
  who_stays role (TheReporter n) is = refl

  pub cases_stay : (sealed : Sealed) (cs : List Case) → list_all (is_readable g sealed) cs ≡ true → list_all (is_readable h sealed) cs ≡ true
  cases_stay sealed cs all = all_more (is_readable g sealed) (is_readable h sealed) cs (λ c is. trail_stays c.trail (sealed c.number) is) all

  pub sessions_stay : (ss : List Session) → list_all (is_right_session g.users) ss ≡ true → list_all (is_right_session h.users) ss ≡ true
  sessions_stay ss all = all_more (is_right_session g.users) (is_right_session h.users) ss (λ s is. who_stays s.role s.who is) all

-- ---- a setting

-- a user has the role that it had, if any
abbrev pub KeepsRole : Option UserItem → UserItem → Type 0
KeepsRole None item = Unit {0}
KeepsRole (Some x) item = item.role ≡ x.role

-- what a setting puts in keeps the rules
abbrev pub Keeps : ℕ → Registry → Setting → Type 0
Keeps t g (OfTenant next) = fits_settings next ≡ true
Keeps t g (OfUser item ends) = (is_own_user t item ≡ true) × (find (has_name item) g.users ≡ None) × KeepsRole (user item.id g.users) item
Keeps t g (OfContext item) = is_own_context t g.users g.forms item ≡ true
Keeps t g (OfForm item) = (is_own_form t item ≡ true) × (follows_in g.forms item ≡ true) × (find (has_key (form_key item)) g.forms ≡ None)

pub setting_grows : (t : ℕ) (g : Registry) (s : Setting) → Keeps t g s → Grows g (configured s g)
setting_grows t g (OfTenant next) keeps = record { channel = refl; users = λ u x e. (x, e, refl); contexts = λ c e. e; versions = λ i v x e. e }
setting_grows t g (OfUser item ends) keeps = record { channel = refl; users = λ u x e. found u x e (eqb item.id u) refl; contexts = λ c e. e; versions = λ i v x e. e }
  where
    found : (u : ℕ) (x : UserItem) → user u g.users ≡ Some x → (b : Bool) → eqb item.id u ≡ b → (y : UserItem) × (user u (with_item user_id g.users item) ≡ Some y) × (y.role ≡ x.role)
    found u x e true is =
        let here : item.id ≡ u = grind (arith, nat_tests, is) in (
          item,
          put_found user_id u g.users item ∙ ap (λ b. cond b (Some item) (user u g.users)) is,
          subst (λ o. KeepsRole o item) (ap (λ v. user v g.users) here ∙ e) keeps.2,
        )
    found u x e false is = (x, put_found user_id u g.users item ∙ (ap (λ b. cond b (Some item) (user u g.users)) is ∙ e), refl)
setting_grows t g (OfContext item) keeps = record { channel = refl; users = λ u x e. (x, e, refl); contexts = λ c e. ap is_some (put_found (λ (x : ContextItem). x.id) c g.contexts item) ∙ there (eqb item.id c) (context c g.contexts) e; versions = λ i v x e. e }
  where
    there : (b : Bool) (o : Option ContextItem) → is_some o ≡ true → is_some (cond b (Some item) o) ≡ true
    there true o e = refl
    there false o e = e
setting_grows t g (OfForm item) keeps = record { channel = refl; users = λ u x e. (x, e, refl); contexts = λ c e. e; versions = λ i v x e. version_found i v g.forms item x keeps.2 e }

-- ---- the rules after it

context_kept : (t : ℕ) (users more : List UserItem) (forms others : List FormItem) (c : ContextItem) → ((f : ℕ) → list_any (has_id_of f) forms ≡ true → list_any (has_id_of f) others ≡ true) → ((u : ℕ) → is_recipient users u ≡ true → is_recipient more u ≡ true) →
    is_own_context t users forms c ≡ true → is_own_context t more others c ≡ true
context_kept t users more forms others c any recipients is =
    let a = and_parts ((c.tenant == t) && is_context_item c && list_any (has_id_of c.form) forms) (list_all (is_recipient users) c.recipients) is in
    let b = and_parts ((c.tenant == t) && is_context_item c) (list_any (has_id_of c.form) forms) a.0 in
    and_from _ _ (and_from _ _ b.0 (any c.form b.1)) (all_more (is_recipient users) (is_recipient more) c.recipients recipients a.1)

follows_kept : (forms others : List FormItem) (x : FormItem) → ((q : FormItem → Bool) → list_any q forms ≡ true → list_any q others ≡ true) → follows_in forms x ≡ true → follows_in others x ≡ true
follows_kept forms others x any is = by (nat_le x.version 1) is
  where
    by : (b : Bool) → (b || list_any (λ y. (y.id == x.id) && (y.version + 1 == x.version)) forms) ≡ true → (b || list_any (λ y. (y.id == x.id) && (y.version + 1 == x.version)) others) ≡ true
    by true e = refl
    by false e = any _ e

pub setting_own : (t : ℕ) (g : Registry) (s : Setting) → AreOrdered g → Keeps t g s → IsOwn t g → IsOwn t (configured s g)
setting_own t g (OfTenant next) order keeps own = record { settings = settings; users = own.users; names = own.names; forms = own.forms; gapless = own.gapless; contexts = own.contexts }
  where
    settings : is_own_settings t (record g.settings { name = next.name; notice_days = next.notice_days; quota = next.quota }) ≡ true
    settings = grind (arith, own.settings, keeps)
setting_own t g (OfUser item ends) order keeps own =
    let grows = setting_grows t g (OfUser item ends) keeps in
    record {
      settings = own.settings;
      users = put_all (is_own_user t) user_id g.users item own.users keeps.0;
      names = names_put g.users item order.users keeps.1 own.names;
      forms = own.forms;
      gapless = own.gapless;
      contexts = all_more (is_own_context t g.users g.forms) (is_own_context t (with_item user_id g.users item) g.forms) g.contexts (λ c is. context_kept t g.users (with_item user_id g.users item) g.forms g.forms c (λ f e. e) (λ u e. role_stays g (configured (OfUser item ends) g) grows Recipient u e) is) own.contexts;
    }
setting_own t g (OfContext item) order keeps own = record {
  settings = own.settings;
  users = own.users;
  names = own.names;
  forms = own.forms;
  gapless = own.gapless;
  contexts = put_all (is_own_context t g.users g.forms) (λ (x : ContextItem). x.id) g.contexts item own.contexts keeps;
}
setting_own t g (OfForm item) order keeps own =
    let more : List FormItem = with_item form_key g.forms item in
    let any = λ (q : FormItem → Bool) (e : list_any q g.forms ≡ true). some_put q g.forms item keeps.2 e in
    record {
      settings = own.settings;
      users = own.users;
      names = own.names;
      forms = put_all (is_own_form t) form_key g.forms item own.forms keeps.0;
      gapless = put_all (follows_in more) form_key g.forms item (all_more (follows_in g.forms) (follows_in more) g.forms (λ x is. follows_kept g.forms more x any is) own.gapless) (follows_kept g.forms more item any keeps.1);
      contexts = all_more (is_own_context t g.users g.forms) (is_own_context t g.users more) g.contexts (λ c is. context_kept t g.users g.users g.forms more c (λ f e. any (has_id_of f) e) (λ u e. e) is) own.contexts;
    }
