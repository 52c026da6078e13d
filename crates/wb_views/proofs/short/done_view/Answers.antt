use Rattle.json.specs.Print.{escape_byte}
use Rattle.wb_model.specs.ShortViews.{done_view}
use Rattle.wb_views.proofs.short.done_view.Goals as goal

pub returns : goal.returns
unfolding done_view escape_byte
returns c = c.short.ensures
