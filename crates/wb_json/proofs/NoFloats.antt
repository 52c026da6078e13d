-- No number in the JSON of shared parts is kept as a floating one.
use Rattle.std.proofs.Common.{◌≡◌, ◌++◌, ℕ, List, [], ◌∷◌, false, Option, Some, None, pos, negsuc, refl}
use Rattle.std.specs.declared.cmp.Ordering.TheVariants.{Less, Equal, Greater}
use Rattle.std.specs.Ordering.{nat_cmp, match_ordering}
use Rattle.std.specs.Cmp.Lexicographic.{slice_cmp}
use Rattle.std.proofs.lemmas.Bool.{or_parts, or_from}
use Rattle.serde_json.specs.Data.{Data, Members, no_members, member, put, string}
use Rattle.serde_json.specs.Written.{has_float, members_have_float}
use Rattle.wb_base.specs.declared.answers.Given.{Given}
use Rattle.wb_base.specs.declared.answers.Given.TheVariants as given
use Rattle.wb_base.specs.AnswerList.{Answered}
use Rattle.wb_model.specs.Json.{Member, members_of, object_of, list_of, or_null, given_data, answers_data}

pub in-put : (k : List ℕ) (d : Data) (ms : Members) → has_float d ≡ false → members_have_float ms ≡ false → members_have_float (put k d ms) ≡ false
in-put k d no_members hd hm = or_from _ _ hd refl
in-put k d (member l e ms) hd hm =
    let parts = or_parts _ _ hm in
    elim (slice_cmp nat_cmp k l) as (λ r. members_have_float (match_ordering r (member k d (member l e ms)) (member l d ms) (member l e (put k d ms))) ≡ false) [
      | Less ↦ or_from _ _ hd hm
      | Equal ↦ or_from _ _ hd parts.1
      | Greater ↦ or_from _ _ parts.0 (in-put k d ms hd parts.1)
    ]

pub in-list : {X : Type 0} (show : X → Data) → ((x : X) → has_float (show x) ≡ false) → (xs : List X) → has_float (list_of show xs) ≡ false
in-list show h [] = refl
in-list show h (x ∷ xs) = or_from _ _ (h x) (in-list show h xs)

pub in-or_null : {X : Type 0} (show : X → Data) → ((x : X) → has_float (show x) ≡ false) → (o : Option X) → has_float (or_null show o) ≡ false
in-or_null show h None = refl
in-or_null show h (Some x) = h x

in-given : (g : Given) → has_float (given_data g) ≡ false
in-given (given.Text text) = refl
in-given (given.List texts) = in-list string (λ text. refl) texts
in-given (given.Flag flag) = refl
in-given (given.Whole (pos n)) = refl
in-given (given.Whole (negsuc n)) = refl
in-given (given.File name content) = refl

pub in-answers : (answers : Answered) → has_float (answers_data answers) ≡ false
in-answers [] = refl
in-answers (entry ∷ answers) = in-put entry.0 (given_data entry.1) _ (in-given entry.1) (in-answers answers)

-- no member has one
abbrev pub ArePlain : List Member → Type 0
ArePlain [] = Unit {0}
ArePlain (m ∷ ms) = (has_float m.1 ≡ false) × ArePlain ms

pub plain_append : (xs ys : List Member) → ArePlain xs → ArePlain ys → ArePlain (xs ++ ys)
plain_append [] ys a b = b
plain_append (m ∷ ms) ys a b = (a.0, plain_append ms ys a.1 b)

pub in-object : (ms : List Member) → ArePlain ms → has_float (object_of ms) ≡ false
in-object [] a = refl
in-object (m ∷ ms) a = in-put m.0 m.1 (members_of ms) a.0 (in-object ms a.1)
