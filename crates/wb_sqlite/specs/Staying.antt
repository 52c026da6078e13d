-- What a call that commits nothing leaves.
use Rattle.std.specs.Prelude.{◌≡◌, IsTrue}
use Rattle.sqlite.specs.State.{State}

-- while the database is open, what nobody has changed since the last commit is as it was
pub record StaysAs (old new : State) : Type 0 where
  pub was_open : IsTrue new.is_open → IsTrue old.is_open
  pub now : IsTrue new.is_open → old.now ≡ old.committed → new.now ≡ old.now
  pub committed : IsTrue new.is_open → old.now ≡ old.committed → new.committed ≡ old.committed
