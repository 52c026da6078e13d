-- The compact text of a canonical value reads as that value.
use Rattle.std.proofs.Common.{◌≡◌, ℕ, ◌≤◌, suc, max, List, [], Some, pos, negsuc, option_map, option_and_then, Greater, refl, sym, ap, ap₂, ◌∙◌, ◌+◌, ◌^◌, nat_lt, inl, inr, subst, arith, append-nil}
use Rattle.std.specs.Fmt.{digits}
use Rattle.std.specs.Prelude.{⊤}
use Rattle.std.proofs.lemmas.Bool.{cases_Bool, ltb-true, ltb-false}
use Rattle.std.proofs.lemmas.Cmp.{nat_list_cmp_total}
use Rattle.std.specs.Ordering.{nat_cmp, ordering_reverse}
use Rattle.std.specs.Cmp.Lexicographic.{slice_cmp}
use Rattle.json.specs.Json as json
use Rattle.json.specs.Lex.{tokens}
use Rattle.json.specs.Tree as tree
use Rattle.json.specs.Word.{after_number}
use Rattle.json.proofs.Printed.Decimals.{IsNumber-decimal, IsNumber-signed_decimal}
use Rattle.json.proofs.Printed.Tokens.{tokens-print}
use Rattle.json.proofs.Printed.Trees.{value-json_tokens, ArePrintable-json_tokens}
use Rattle.serde_json.specs.Data.{Num, unsigned, negative, float, Data, null, boolean, number, string, array, object, Items, no_items, item, Members, no_members, member, put, depth, items_depth, members_depth}
use Rattle.serde_json.specs.Read.{number_of, of_json, of_items, of_members, read, max_depth}
use Rattle.serde_json.specs.Written.{number_text, outline, items_outline, members_outline, compact_text}
use Rattle.serde_json.proofs.Numbers.{number_of-decimal, number_of-negative}
use Rattle.serde_json.proofs.Texts.{print-outline}
use Rattle.wb_row_codec.proofs.Canonical.{IsWhole, IsBefore, IsCanonical, ItemsAreCanonical, MembersAreCanonical}

abbrev pub append : Members → Members → Members
append no_members ms = ms
append (member k d fs) ms = member k d (append fs ms)

append-assoc : (a b c : Members) → append (append a b) c ≡ append a (append b c)
append-assoc no_members b c = refl
append-assoc (member k d fs) b c = ap (member k d) (append-assoc fs b c)

append-nothing : (fs : Members) → append fs no_members ≡ fs
append-nothing no_members = refl
append-nothing (member k d fs) = ap (member k d) (append-nothing fs)

-- each key of the first comes before each key of the second
abbrev pub AllBefore : Members → Members → Type 0
AllBefore no_members ms = ⊤
AllBefore (member k d fs) ms = IsBefore k ms × AllBefore fs ms

pub put_after : (k : List ℕ) (d : Data) (fs ms : Members) → AllBefore fs (member k d ms) → put k d fs ≡ append fs (member k d no_members)
put_after k d no_members ms h = refl
put_after k d (member l e fs) ms h =
    let above : slice_cmp nat_cmp k l ≡ Greater = nat_list_cmp_total.antisymm k l ∙ ap ordering_reverse h.0.0 in
    rw above (ap (member l e) (put_after k d fs ms h.1))

before_rest : (k : List ℕ) (d : Data) (fs ms : Members) → AllBefore fs (member k d ms) → IsBefore k ms → AllBefore (append fs (member k d no_members)) ms
before_rest k d no_members ms h b = (b, tt)
before_rest k d (member l e fs) ms h b = (h.0.1, before_rest k d fs ms h.1 b)

number_of-text : (n : Num) → IsWhole n → number_of (number_text n) ≡ Some n
number_of-text (unsigned n) h = number_of-decimal n h
number_of-text (negative (pos n)) h = absurd h
number_of-text (negative (negsuc n)) h = number_of-negative n h
number_of-text (float x) h = absurd h

mutual
  of_json-outline : (d : Data) → IsCanonical d → of_json (outline d) ≡ Some d
  of_json-outline null h = refl
  of_json-outline (boolean b) h = refl
  of_json-outline (number n) h = ap (option_map number) (number_of-text n h)
  of_json-outline (string s) h = refl
  of_json-outline (array ds) h = ap (option_map array) (of_items-outline ds h)
  of_json-outline (object ms) h = ap (option_map object) (of_members-outline ms no_members h tt)

  of_items-outline : (ds : Items) → ItemsAreCanonical ds → of_items (items_outline ds) ≡ Some ds
  of_items-outline no_items h = refl
  of_items-outline (item d ds) h =
      ap (option_and_then (λ e. option_map (item e) (of_items (items_outline ds)))) (of_json-outline d h.0) ∙ ap (option_map (item d)) (of_items-outline ds h.1)

  of_members-outline : (ms found : Members) → MembersAreCanonical ms → AllBefore found ms → of_members (members_outline ms) found ≡ Some (append found ms)
  of_members-outline no_members found h b = ap Some (sym (append-nothing found))
  of_members-outline (member k d ms) found h b =
      ap (option_and_then (λ e. of_members (members_outline ms) (put k e found))) (of_json-outline d h.1)
      ∙ ap (of_members (members_outline ms)) (put_after k d found ms b)
      ∙ of_members-outline ms (append found (member k d no_members)) h.2 (before_rest k d found ms b h.0)
      ∙ ap Some (append-assoc found (member k d no_members) ms)

-- the least number of 64 bits
HasNumber-least : tree.HasNumbers (json.number (number_text (negative (negsuc 9_223_372_036_854_775_807))))
unfolding after_number digits
HasNumber-least = refl

HasNumber-text : (n : Num) → IsWhole n → tree.HasNumbers (json.number (number_text n))
HasNumber-text (unsigned n) h = IsNumber-decimal n h
HasNumber-text (negative (pos n)) h = absurd h
HasNumber-text (negative (negsuc n)) h = elim (cases_Bool (nat_lt (n + 1) (2 ^ 63))) [
  | inl above ↦ let lt = ltb-true _ _ above in IsNumber-signed_decimal (negsuc n) (omega (arith, lt))
  | inr least ↦ let le = ltb-false _ _ least in let is : 9_223_372_036_854_775_807 ≡ n = omega (arith, le, h) in subst (λ k. tree.HasNumbers (json.number (number_text (negative (negsuc k))))) is HasNumber-least
]
HasNumber-text (float x) h = absurd h

mutual
  HasNumbers-outline : (d : Data) → IsCanonical d → tree.HasNumbers (outline d)
  HasNumbers-outline null h = tt
  HasNumbers-outline (boolean b) h = tt
  HasNumbers-outline (number n) h = HasNumber-text n h
  HasNumbers-outline (string s) h = tt
  HasNumbers-outline (array ds) h = ItemsHaveNumbers-outline ds h
  HasNumbers-outline (object ms) h = MembersHaveNumbers-outline ms h

  ItemsHaveNumbers-outline : (ds : Items) → ItemsAreCanonical ds → tree.ItemsHaveNumbers (items_outline ds)
  ItemsHaveNumbers-outline no_items h = tt
  ItemsHaveNumbers-outline (item d ds) h = (HasNumbers-outline d h.0, ItemsHaveNumbers-outline ds h.1)

  MembersHaveNumbers-outline : (ms : Members) → MembersAreCanonical ms → tree.MembersHaveNumbers (members_outline ms)
  MembersHaveNumbers-outline no_members h = tt
  MembersHaveNumbers-outline (member k d ms) h = (HasNumbers-outline d h.1, MembersHaveNumbers-outline ms h.2)

mutual
  depth-outline : (d : Data) → tree.depth (outline d) ≡ depth d
  depth-outline null = refl
  depth-outline (boolean b) = refl
  depth-outline (number n) = refl
  depth-outline (string s) = refl
  depth-outline (array ds) = ap suc (items_depth-outline ds)
  depth-outline (object ms) = ap suc (members_depth-outline ms)

  items_depth-outline : (ds : Items) → tree.items_depth (items_outline ds) ≡ items_depth ds
  items_depth-outline no_items = refl
  items_depth-outline (item d ds) = ap₂ max (depth-outline d) (items_depth-outline ds)

  members_depth-outline : (ms : Members) → tree.members_depth (members_outline ms) ≡ members_depth ms
  members_depth-outline no_members = refl
  members_depth-outline (member k d ms) = ap₂ max (depth-outline d) (members_depth-outline ms)

pub read-compact_text : (d : Data) → IsCanonical d → depth d ≤ max_depth → read (compact_text d) ≡ Some d
read-compact_text d kept shallow =
    let lexed = ap tokens (sym (print-outline d)) ∙ tokens-print _ (ArePrintable-json_tokens _ (HasNumbers-outline d kept)) ∙ sym (append-nil _) in
    let deep : tree.depth (outline d) ≤ max_depth = rw (depth-outline d) shallow in
    ap (λ o. option_and_then of_json (option_and_then (λ p. json.if_last p.0 p.1) o)) (ap (json.value max_depth) lexed ∙ value-json_tokens (outline d) max_depth [] deep)
    ∙ of_json-outline d kept
