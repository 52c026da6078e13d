-- The name of a store: `etcd://`, its endpoints with commas between, a slash, and the prefix of its keys.
use Rattle.std.specs.Prelude.{◌≡◌, ℕ, ◌<◌, ◌&&◌, ◌||◌, ◌==◌, nat_le, not, Bool, true, List, ◌++◌, length, codes, Option, Some, None, if◌then◌else◌}
use Rattle.std.specs.List.{list_all, list_any, slice_split, join_with_byte}

-- a letter or a digit of ASCII
abbrev pub is_letter_or_digit : ℕ → Bool
is_letter_or_digit b = (nat_le 48 b && nat_le b 57) || ((nat_le 65 b && nat_le b 90) || (nat_le 97 b && nat_le b 122))

-- what a host's name or address has, and the colon before its port
abbrev pub is_endpoint_byte : ℕ → Bool
is_endpoint_byte b = is_letter_or_digit b || ((b == 45) || ((b == 46) || ((b == 58) || ((b == 91) || (b == 93)))))

-- an endpoint: a host and a port, with a colon between
abbrev pub is_endpoint : List ℕ → Bool
is_endpoint text = list_all is_endpoint_byte text && list_any (λ b. b == 58) text

-- what a prefix has: letters, digits, and the marks `-`, `.` and `_`
abbrev pub is_prefix_byte : ℕ → Bool
is_prefix_byte b = is_letter_or_digit b || ((b == 45) || ((b == 46) || (b == 95)))

-- a prefix is not empty
abbrev pub is_prefix : List ℕ → Bool
is_prefix text = list_all is_prefix_byte text && not (length text == 0)

-- endpoints with commas between
abbrev pub listed : List (List ℕ) → List ℕ
listed endpoints = join_with_byte 44 endpoints

-- the endpoints between commas, where all are some
abbrev pub endpoints_in : List ℕ → Option (List (List ℕ))
endpoints_in text = let parts = slice_split (λ b. b == 44) text in if list_all is_endpoint parts then Some parts else None

unfoldable pub name_text : List (List ℕ) → List ℕ → List ℕ
name_text endpoints prefix = codes "etcd://" ++ (listed endpoints ++ (codes "/" ++ prefix))

-- a text names the store that these endpoints reach, and the rows in it under this prefix
pub record IsStoreName (text : List ℕ) (endpoints : List (List ℕ)) (prefix : List ℕ) : Type 0 where
  pub some : 0 < length endpoints
  pub reached : list_all is_endpoint endpoints ≡ true
  pub kept : is_prefix prefix ≡ true
  pub named : text ≡ name_text endpoints prefix
