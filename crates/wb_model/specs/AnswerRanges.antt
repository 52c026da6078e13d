-- What answers may be, as a request has them and as they are kept: in byte order of their fields' ids, each in its range.
use Rattle.std.specs.Prelude.{ℕ, ◌==◌, ◌&&◌, not, Bool, true, List, length, pos, neg_ℤ, int_le}
use Rattle.std.specs.List.{list_all}
use Rattle.std.specs.Ordering.{is_lt, nat_cmp}
use Rattle.std.specs.Cmp.Lexicographic.{slice_cmp}
use Rattle.wb_base.specs.AnswerList.{Answered}
use Rattle.wb_base.specs.declared.answers.Given.{Given}
use Rattle.wb_base.specs.declared.answers.Given.TheVariants as given
use Rattle.wb_model.specs.Ordered.{are_ordered}

-- a number of 64 bits with a sign
abbrev pub is_answer : Given → Bool
is_answer (given.Text text) = not (length text == 0)
is_answer (given.List texts) = true
is_answer (given.Flag flag) = true
is_answer (given.Whole z) = int_le (neg_ℤ (pos 9_223_372_036_854_775_808)) z && int_le z (pos 9_223_372_036_854_775_807)
is_answer (given.File name content) = true

abbrev pub is_id_before : List ℕ × Given → List ℕ × Given → Bool
is_id_before x y = is_lt (slice_cmp nat_cmp x.0 y.0)

-- each answer is one, and the ids of their fields ascend in byte order
abbrev pub are_answers : Answered → Bool
are_answers answers = list_all (λ entry. is_answer entry.1) answers && are_ordered is_id_before answers
