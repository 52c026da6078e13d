-- A writer with one more line.
use Rattle.std.proofs.Common.{◌≡◌, ◌≢◌, ◌<◌, ◌≤◌, ◌+◌, ◌++◌, ℕ, length, map, take, get_or, List, [], ◌∷◌, false, sym, ap, ◌∙◌, subst, append_assoc, append-nil}
use Rattle.std.proofs.lemmas.List.{map-append, take_all, take_more}
use Rattle.std.specs.Prelude.{Option, Some, None, unwrap_or, OnOk}
use Rattle.std.specs.Result.{is_err}
use Rattle.std.specs.declared.result.Result.{Result}
use Rattle.std.specs.declared.result.Result.TheVariants.{Ok, Err}
use Rattle.std.specs.Io.KnownBytes.{Appends}
use Rattle.csv.specs.Writing.{row_text, default_writer, text_written, writer_setup, fields_written, has_written}
use Rattle.csv.specs.declared.writer.QuoteStyle.TheVariants as style
use Rattle.csv.specs.declared.writer.Writer.{Writer}
use Rattle.csv.specs.declared.writer.WriterBuilder.{WriterBuilder}
use Rattle.wb_export.specs.Csv.{CsvLine, csv_text, HasWritten}

with_line : (lines : List CsvLine) (line : CsvLine) → csv_text (lines ++ line ∷ []) ≡ csv_text lines ++ row_text default_writer line
with_line [] line = append-nil (row_text default_writer line)
with_line (x ∷ xs) line = ap (λ text. row_text default_writer x ++ text) (with_line xs line) ∙ sym (append_assoc (row_text default_writer x) (csv_text xs) (row_text default_writer line))

grown : (xs bs : List ℕ) (new : Option (List ℕ)) → Appends (Some xs) new bs → new ≡ Some (xs ++ bs)
grown xs bs None h = absurd h
grown xs bs (Some ys) h = ap Some h

pub of_some : (xs ys : List ℕ) → Some xs ≡ Some ys → xs ≡ ys
of_some xs ys e = ap (λ o. unwrap_or o xs) e

pub plain : (cfg : WriterBuilder) → cfg ≡ default_writer → cfg.style ≢ style.NonNumeric
plain cfg e = rw e (λ s. cc s)

pub one_more : {W : Type 0} (contents : W → Option (List ℕ)) (before after : Writer W) (lines : List CsvLine) (line : CsvLine)
    → HasWritten contents before lines
    → (fields_written before ≡ 0 → has_written before ≡ false → (writer_setup before).style ≢ style.NonNumeric → Appends (text_written contents before) (text_written contents after) (row_text (writer_setup before) line))
    → writer_setup after ≡ writer_setup before → fields_written after ≡ 0 → has_written after ≡ false
    → HasWritten contents after (lines ++ line ∷ [])
one_more contents before after lines line h adds setup fields wrote =
    let added = adds h.fields h.wrote (plain _ h.setup) in
    let known = subst (λ t. Appends t (text_written contents after) (row_text (writer_setup before) line)) h.text added in
    let more = subst (λ cfg. Appends (Some (csv_text lines)) (text_written contents after) (row_text cfg line)) h.setup known in
    record {
      text = grown _ _ _ more ∙ ap Some (sym (with_line lines line));
      setup = setup ∙ h.setup;
      fields = fields;
      wrote = wrote;
    }

pub where_ok : {A E : Type 0} {P : Type 0} (result : Result A E) → false ≡ is_err result → OnOk result P → P
where_ok (Ok a) e h = h
where_ok (Err b) e h = absurd cc

-- ---- lines of items, one after another

pub next_line : {X : Type 0} (line : X → CsvLine) (xs : List X) (i : ℕ) (x : X) → i < length xs → x ≡ get_or xs i x → (map line (take i xs) ++ line x ∷ []) ≡ map line (take (i + 1) xs)
next_line line xs i x within is = sym (map-append line (take i xs) (x ∷ [])) ∙ ap (map line) (sym (take_more xs i x within ∙ ap (λ y. take i xs ++ y ∷ []) (sym is)))

pub all_lines : {X : Type 0} (line : X → CsvLine) (xs : List X) (i : ℕ) → length xs ≤ i → map line (take i xs) ≡ map line xs
all_lines line xs i over = ap (map line) (take_all i xs over)
