-- A date in JSON.
use Rattle.std.specs.Prelude.{Option, option_and_then, ℤ}
use Rattle.serde_json.specs.Data.{Data}
use Rattle.serde_json.specs.Find.{as_str}
use Rattle.wb_base.specs.DateTexts.{read_date}

-- a date that may be an answer
abbrev pub date : Data → Option ℤ
date d = option_and_then read_date (as_str d)
