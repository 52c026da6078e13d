-- What a turn's context stands for.
use Rattle.wb_model.specs.Changes.{TurnContext}
use Rattle.wb_tables.specs.declared.turn_context.TurnContext.{TurnContext as KeptAt}

abbrev pub at_of : KeptAt → TurnContext
at_of at = record { time = at.time; turn = at.turn; words = at.words }
