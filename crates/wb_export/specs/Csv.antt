-- Lines of fields as CSV (RFC 4180), each ended by a line feed.
use Rattle.std.specs.Prelude.{◌≡◌, ◌++◌, ℕ, List, [], ◌∷◌, Option, Some, false}
use Rattle.csv.specs.Records.{Row, fields_of, partial_of}
use Rattle.csv.specs.Writing.{row_text, default_writer, text_written, writer_setup, fields_written, has_written}
use Rattle.csv.specs.declared.writer.Writer.{Writer}

-- a line: its fields
abbrev pub CsvLine : Type 0
CsvLine = List (List ℕ)

abbrev pub csv_text : List CsvLine → List ℕ
csv_text [] = []
csv_text (line ∷ lines) = row_text default_writer line ++ csv_text lines

-- a writer has written these lines whole
pub record HasWritten {W : Type 0} (contents : W → Option (List ℕ)) (writer : Writer W) (lines : List CsvLine) : Type 0 where
  pub text : text_written contents writer ≡ Some (csv_text lines)
  pub setup : writer_setup writer ≡ default_writer
  pub fields : fields_written writer ≡ 0
  pub wrote : has_written writer ≡ false

-- a line has these fields, and nothing after the last
pub record IsCsvLine (row : Row) (fields : CsvLine) : Type 0 where
  pub all : fields_of row ≡ fields
  pub ended : partial_of row ≡ []
