use Rattle.wb_case.proofs.LegalRoom.{names-few}
use Rattle.wb_case.proofs.laws.a_legal_entry_names_few_readers.Goals as goal

pub returns : goal.returns
returns c = names-few
