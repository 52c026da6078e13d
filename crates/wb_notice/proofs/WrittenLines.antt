-- The lines of notices, written one after another.
use Rattle.std.proofs.Common.{◌≡◌, ℕ, ◌<◌, ◌≤◌, ◌+◌, List, [], ◌++◌, Option, length, drop, get_or, sym, ap, subst, ◌∙◌, append_assoc, append-nil, refl}
use Rattle.std.proofs.lemmas.List.{drop_all}
use Rattle.std.specs.List.{flat_map}
use Rattle.std.specs.Io.KnownBytes.{Appends}
use Rattle.std.proofs.KnownBytes.{Appends-nil, Appends-trans}
use Rattle.wb_base.specs.Outside.{AppendsFront}
use Rattle.wb_cli.proofs.SinkLemmas.{front_after, front_more}
use Rattle.wb_notice.specs.declared.notice.Notice.{Notice}
use Rattle.wb_notice.specs.Notifies.{notice_line}
use Rattle.wb_notice.proofs.ListFacts.{here}

abbrev lines : List Notice → List ℕ
lines ns = flat_map notice_line ns

-- what was written before the next notice, and what is left, are the whole
pub record HasWritten (old now : Option (List ℕ)) (ns : List Notice) (i : ℕ) : Type 0 where
  pub done : List ℕ
  pub told : Appends old now done
  pub left : lines ns ≡ done ++ lines (drop i ns)

pub none_written : (old : Option (List ℕ)) (ns : List Notice) → HasWritten old old ns 0
none_written old ns = record { done = []; told = Appends-nil old; left = refl }

module _ (old now now' : Option (List ℕ)) (ns : List Notice) (i : ℕ) (n : Notice) (within : i < length ns) (is : n ≡ get_or ns i n) (so_far : HasWritten old now ns i) where
  next : lines ns ≡ so_far.done ++ (notice_line n ++ lines (drop (i + 1) ns))
  next = so_far.left ∙ ap (λ l. so_far.done ++ lines l) (here ns i n within is)

  pub one_written : Appends now now' (notice_line n) → HasWritten old now' ns (i + 1)
  one_written h = record {
    done = so_far.done ++ notice_line n;
    told = Appends-trans old now now' so_far.done (notice_line n) so_far.told h;
    left = next ∙ sym (append_assoc so_far.done (notice_line n) (lines (drop (i + 1) ns)));
  }

  pub one_cut : AppendsFront now now' (notice_line n) → AppendsFront old now' (lines ns)
  one_cut h = subst (AppendsFront old now') (sym next) (front_after old now now' so_far.done (notice_line n ++ lines (drop (i + 1) ns)) so_far.told (front_more now now' (notice_line n) (lines (drop (i + 1) ns)) h))

pub all_written : (old now : Option (List ℕ)) (ns : List Notice) (i : ℕ) → length ns ≤ i → HasWritten old now ns i → Appends old now (lines ns)
all_written old now ns i over so_far = subst (Appends old now) (sym (so_far.left ∙ (ap (λ l. so_far.done ++ lines l) (drop_all i ns over) ∙ append-nil so_far.done))) so_far.told
