-- What the reading of a connection's head answers.
use Rattle.std.specs.Prelude.{◌≡◌, ℕ, Bool, List, length, drop, Option, Ok, unwrap_or}
use Rattle.httparse.specs.Grammar.{RequestHead, print_request}
use Rattle.wb_model.specs.Heads.{fields_of, declared_length, closes, BeginsWithHead}
use Rattle.wb_model.specs.Cuts.{MayHaveHead, EndsAt}
use Rattle.wb_wire.specs.declared.heads.HeadRead.{HeadRead}
use Rattle.wb_wire.specs.declared.heads.HeadRead.TheVariants.{Whole, More, No}

-- a head of so many bytes, whose body is to have so many, and the closing that it asks for
pub record IsWhole (bytes : List ℕ) (size body : ℕ) (close : Bool) : Type 0 where
  pub head : RequestHead
  pub begins : BeginsWithHead bytes head (drop size bytes)
  pub sized : size ≡ length (print_request head)
  pub said : Option ℕ
  pub declares : declared_length (fields_of head) ≡ Ok said
  pub has_body : body ≡ unwrap_or said 0
  pub closing : close ≡ closes head

abbrev pub IsHeadRead : List ℕ → HeadRead → Type 0
IsHeadRead bytes (Whole size body close) = IsWhole bytes size body close
IsHeadRead bytes More = MayHaveHead bytes
IsHeadRead bytes (No fault) = EndsAt bytes fault
