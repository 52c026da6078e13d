-- A trail that is read so far, with one more entry.
use Rattle.std.proofs.Common.{◌≡◌, ℕ, List, [], ◌∷◌, ◌++◌, refl}
use Rattle.wb_model.specs.declared.entry.Entry.{Entry}
use Rattle.wb_model.specs.Legal.{last_at}

pub last_of : (time : ℕ) (es : List Entry) (e : Entry) → last_at time (es ++ e ∷ []) ≡ e.at
last_of time [] e = refl
last_of time (x ∷ es) e = last_of x.at es e
