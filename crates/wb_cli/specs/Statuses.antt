-- The line of a status, which standard error gets, and the number that the program ends with.
use Rattle.std.specs.Prelude.{ℕ, ◌++◌, List, [], codes, decimal, ◌⊎◌, ◌≡◌}
use Rattle.wb_base.specs.declared.rows.Key.{Key}
use Rattle.wb_rows.specs.declared.faults.RowFault.{RowFault}
use Rattle.wb_rows.specs.declared.faults.RowFault.TheVariants.{BadRow, BadSet, Memory as RowsMemory}
use Rattle.wb_setup.specs.declared.setup.SetupFault.{SetupFault}
use Rattle.wb_setup.specs.declared.setup.SetupFault.TheVariants.{Text, Rule, Memory as SetupMemory}
use Rattle.wb_cli.specs.declared.status.Status.{Status}
use Rattle.wb_cli.specs.declared.status.Status.TheVariants.{Done, Usage, ReadFault, WriteFault, NoMemory, BadFrame, Setup, OpenFault, KeptRows, TooLong, ListenFault, OutboxRows, NotThere, OutboxFault}

abbrev pub refusal_text : SetupFault → List ℕ
refusal_text Text = codes "setup refused: text\n"
refusal_text (Rule rule) = codes "setup refused: rule " ++ decimal rule ++ codes "\n"
refusal_text SetupMemory = codes "no memory\n"

-- where a row stands, by the fields of its key
abbrev pub place_text : Key → List ℕ
place_text key = (((codes " at " ++ decimal key.kind) ++ (codes "/" ++ decimal key.tenant)) ++ (codes "/" ++ decimal key.a)) ++ (codes "/" ++ decimal key.b ++ codes "\n")

-- the rule that kept rows break, 0 for a row that is not good, and where they do
abbrev pub broken_text : ℕ → Key → List ℕ
broken_text rule key = (codes "kept rows refused: rule " ++ decimal rule) ++ place_text key

-- the place of a row in the outbox that is no notice
abbrev pub outbox_text : Key → List ℕ
outbox_text key = codes "outbox rows refused:" ++ place_text key

abbrev pub rows_text : RowFault → List ℕ
rows_text (BadRow key) = broken_text 0 key
rows_text (BadSet rule key) = broken_text rule key
rows_text RowsMemory = codes "no memory\n"

abbrev pub status_text : Status → List ℕ
status_text Done = []
status_text Usage = codes "usage: whistle play [--store PATH], make N, tally N, notices MOMENT --store PATH --outbox PATH, register TENANT USER MOMENT [--store PATH], forecast TENANT DATE [--store PATH], serve --setup PATH --listen ADDRESS --workers N [--lock mutex|ticket] [--store PATH]\n"
status_text ReadFault = codes "read fault\n"
status_text WriteFault = codes "write fault\n"
status_text NoMemory = codes "no memory\n"
status_text (BadFrame n) = codes "bad frame " ++ decimal n ++ codes "\n"
status_text (Setup fault) = refusal_text fault
status_text OpenFault = codes "open fault\n"
status_text (KeptRows fault) = rows_text fault
status_text TooLong = codes "input too long\n"
status_text ListenFault = codes "listen fault\n"
status_text (OutboxRows key) = outbox_text key
status_text NotThere = codes "not there\n"
status_text OutboxFault = codes "outbox fault\n"

-- the number that the program ends with
abbrev pub status_number : Status → ℕ
status_number Done = 0
status_number Usage = 2
status_number ReadFault = 3
status_number WriteFault = 4
status_number NoMemory = 5
status_number (BadFrame n) = 6
status_number (Setup fault) = 7
status_number OpenFault = 8
status_number (KeptRows fault) = 9
status_number TooLong = 10
status_number ListenFault = 11
status_number (OutboxRows key) = 12
status_number NotThere = 13
status_number OutboxFault = 14

-- all was done, or there was no memory
abbrev pub IsDoneOrNoMemory : Status → Type 0
IsDoneOrNoMemory status = (status ≡ Done) ⊎ (status ≡ NoMemory)
