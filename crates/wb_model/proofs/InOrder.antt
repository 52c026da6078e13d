-- What a tenant is set up with stands in the order of its numbers, in each past.
use Rattle.std.proofs.Common.{◌≡◌, ℕ, true, List, [], ◌∷◌, refl, ap, ◌∙◌}
use Rattle.std.specs.Prelude.{map}
use Rattle.std.specs.Ordering.{nat_cmp, match_ordering}
use Rattle.std.specs.declared.cmp.Ordering.{Ordering}
use Rattle.std.specs.declared.cmp.Ordering.TheVariants.{Less, Equal, Greater}
use Rattle.wb_list.specs.Keyed.{insert_item}
use Rattle.wb_model.specs.declared.registry.ContextItem.{ContextItem}
use Rattle.wb_model.specs.declared.registry.UserItem.{UserItem}
use Rattle.wb_model.specs.Tables.{Registry}
use Rattle.wb_model.specs.Settings.{OfTenant, OfUser, OfContext, OfForm, form_key}
use Rattle.wb_model.specs.Changes.{Change, Configures}
use Rattle.wb_model.specs.Host.{registry_after}
use Rattle.wb_model.specs.Legal.{ascends}
use Rattle.wb_model.specs.Opened.{AreOrdered, Opened}
use Rattle.wb_model.specs.Past.{Past, Opening, Turn, registry, alone_at}
use Rattle.wb_model.proofs.SoundRegistries.{put, put_ascends}

-- the numbers of a list with one more item at its place
keys_put : {X : Type 0} (key : X → ℕ) (xs : List X) (x : X) → map key (insert_item nat_cmp key xs x) ≡ put (map key xs) (key x)
keys_put key [] x = refl
keys_put {X} key (y ∷ ys) x = by (nat_cmp (key y) (key x)) (keys_put key ys x)
  where
    by : (o : Ordering) → map key (insert_item nat_cmp key ys x) ≡ put (map key ys) (key x) →
        map key (match_ordering o (y ∷ insert_item nat_cmp key ys x) (x ∷ ys) (x ∷ y ∷ ys)) ≡ match_ordering o (key y ∷ put (map key ys) (key x)) (key x ∷ map key ys) (key x ∷ key y ∷ map key ys)
    by Less ih = ap (λ ks. key y ∷ ks) ih
    by Equal ih = refl
    by Greater ih = refl

stays_ordered : {X : Type 0} (key : X → ℕ) (xs : List X) (x : X) → ascends (map key xs) ≡ true → ascends (map key (insert_item nat_cmp key xs x)) ≡ true
stays_ordered key xs x up = ap ascends (keys_put key xs x) ∙ put_ascends (key x) (map key xs) up

change_ordered : (ch : Change) (g : Registry) → AreOrdered g → AreOrdered (registry_after ch g)
change_ordered (Configures (OfTenant next)) g order = record { users = order.users; forms = order.forms; contexts = order.contexts }
change_ordered (Configures (OfUser item ends)) g order = record { users = stays_ordered (λ (x : UserItem). x.id) g.users item order.users; forms = order.forms; contexts = order.contexts }
change_ordered (Configures (OfContext item)) g order = record { users = order.users; forms = order.forms; contexts = stays_ordered (λ (x : ContextItem). x.id) g.contexts item order.contexts }
change_ordered (Configures (OfForm item)) g order = record { users = order.users; forms = stays_ordered form_key g.forms item order.forms; contexts = order.contexts }
change_ordered _ g order = order

pub past_ordered : (past : Past Opened) → AreOrdered (registry past)
past_ordered (Opening o) = o.sound.ordered
past_ordered (Turn e past) = change_ordered (alone_at past e) (registry past) (past_ordered past)
