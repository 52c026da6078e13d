-- What the body of a refusal has besides its code, as the code keeps it.
use Rattle.wb_model.specs.Refusals.{Detail, Bare, Field, Null, Whole, Date, Word}
use Rattle.wb_views.specs.declared.refusals.Detail.{Detail as KeptDetail}
use Rattle.wb_views.specs.declared.refusals.Detail.TheVariants as details

abbrev pub detail_of : KeptDetail → Detail
detail_of details.Bare = Bare
detail_of (details.Field id) = Field id
detail_of details.Null = Null
detail_of (details.Whole number) = Whole number
detail_of (details.Date day) = Date day
detail_of (details.Word word) = Word word.now
