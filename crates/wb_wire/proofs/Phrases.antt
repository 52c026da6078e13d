-- The phrases of status codes: those that `http` has, as a table.
use Rattle.std.proofs.Common.{◌≡◌, ◌≤◌, ◌==◌, ◌&&◌, ℕ, nat_le, nat_lt, Bool, true, if◌then◌else◌, List, [], ◌∷◌, length, codes, Option, Some, None, IfSome, refl, sym, ◌∙◌, inl, inr, subst, arith}
use Rattle.std.specs.List.{list_all}
use Rattle.std.proofs.lemmas.Bool.{cases_Bool, and_parts, leb-true, ltb-true, eqb-true}
use Rattle.http.specs.StatusCode.{IsStatusCode, reason_phrase}

phrases : List (ℕ × List ℕ)
phrases =
    (100, codes "Continue") ∷
    (101, codes "Switching Protocols") ∷
    (102, codes "Processing") ∷
    (103, codes "Early Hints") ∷
    (200, codes "OK") ∷
    (201, codes "Created") ∷
    (202, codes "Accepted") ∷
    (203, codes "Non Authoritative Information") ∷
    (204, codes "No Content") ∷
    (205, codes "Reset Content") ∷
    (206, codes "Partial Content") ∷
    (207, codes "Multi-Status") ∷
    (208, codes "Already Reported") ∷
    (226, codes "IM Used") ∷
    (300, codes "Multiple Choices") ∷
    (301, codes "Moved Permanently") ∷
    (302, codes "Found") ∷
    (303, codes "See Other") ∷
    (304, codes "Not Modified") ∷
    (305, codes "Use Proxy") ∷
    (307, codes "Temporary Redirect") ∷
    (308, codes "Permanent Redirect") ∷
    (400, codes "Bad Request") ∷
    (401, codes "Unauthorized") ∷
    (402, codes "Payment Required") ∷
    (403, codes "Forbidden") ∷
    (404, codes "Not Found") ∷
    (405, codes "Method Not Allowed") ∷
    (406, codes "Not Acceptable") ∷
    (407, codes "Proxy Authentication Required") ∷
    (408, codes "Request Timeout") ∷
    (409, codes "Conflict") ∷
    (410, codes "Gone") ∷
    (411, codes "Length Required") ∷
    (412, codes "Precondition Failed") ∷
    (413, codes "Payload Too Large") ∷
    (414, codes "URI Too Long") ∷
    (415, codes "Unsupported Media Type") ∷
    (416, codes "Range Not Satisfiable") ∷
    (417, codes "Expectation Failed") ∷
    (418, codes "I'm a teapot") ∷
    (421, codes "Misdirected Request") ∷
    (422, codes "Unprocessable Entity") ∷
    (423, codes "Locked") ∷
    (424, codes "Failed Dependency") ∷
    (425, codes "Too Early") ∷
    (426, codes "Upgrade Required") ∷
    (428, codes "Precondition Required") ∷
    (429, codes "Too Many Requests") ∷
    (431, codes "Request Header Fields Too Large") ∷
    (451, codes "Unavailable For Legal Reasons") ∷
    (500, codes "Internal Server Error") ∷
    (501, codes "Not Implemented") ∷
    (502, codes "Bad Gateway") ∷
    (503, codes "Service Unavailable") ∷
    (504, codes "Gateway Timeout") ∷
    (505, codes "HTTP Version Not Supported") ∷
    (506, codes "Variant Also Negotiates") ∷
    (507, codes "Insufficient Storage") ∷
    (508, codes "Loop Detected") ∷
    (510, codes "Not Extended") ∷
    (511, codes "Network Authentication Required") ∷ []

abbrev phrase_in : List (ℕ × List ℕ) → ℕ → Option (List ℕ)
phrase_in [] n = None
phrase_in (row ∷ rows) n = if n == row.0 then Some row.1 else phrase_in rows n

in_table : (n : ℕ) → reason_phrase n ≡ phrase_in phrases n
unfolding phrases
in_table n = refl

abbrev is_row : ℕ × List ℕ → Bool
is_row row = nat_le 100 row.0 && nat_lt row.0 1000 && nat_le (length row.1) 31

all_rows : list_all is_row phrases ≡ true
unfolding phrases
all_rows = refl

short_in : (rows : List (ℕ × List ℕ)) (n : ℕ) → list_all is_row rows ≡ true → IfSome (phrase_in rows n) (λ text. length text ≤ 31)
short_in [] n all = tt
short_in (row ∷ rows) n all =
    let parts = and_parts (is_row row) (list_all is_row rows) all in
    let short = and_parts (nat_le 100 row.0 && nat_lt row.0 1000) (nat_le (length row.1) 31) parts.0 in
    elim (cases_Bool (n == row.0)) [
      | inl same ↦ rw same (leb-true _ _ short.1)
      | inr other ↦ rw other (short_in rows n parts.1)
    ]

none_in : (rows : List (ℕ × List ℕ)) (n : ℕ) → list_all is_row rows ≡ true → ¬ (IsStatusCode n) → phrase_in rows n ≡ None
none_in [] n all outside = refl
none_in (row ∷ rows) n all outside =
    let parts = and_parts (is_row row) (list_all is_row rows) all in
    let range = and_parts (nat_le 100 row.0 && nat_lt row.0 1000) (nat_le (length row.1) 31) parts.0 in
    let ends = and_parts (nat_le 100 row.0) (nat_lt row.0 1000) range.0 in
    elim (cases_Bool (n == row.0)) [
      | inl same ↦ let is : n ≡ row.0 = eqb-true n row.0 same in absurd (outside (omega (arith, is, leb-true _ _ ends.0), omega (arith, is, ltb-true _ _ ends.1)))
      | inr other ↦ rw other (none_in rows n parts.1 outside)
    ]

-- a phrase has at most 31 bytes
pub phrase_short : (n : ℕ) (text : List ℕ) → reason_phrase n ≡ Some text → length text ≤ 31
phrase_short n text is = let short = short_in phrases n all_rows in subst (λ o. IfSome o (λ t. length t ≤ 31)) (sym (in_table n) ∙ is) short

-- a number that is no status code has no phrase
pub no_phrase : (n : ℕ) → ¬ (IsStatusCode n) → reason_phrase n ≡ None
no_phrase n outside = in_table n ∙ none_in phrases n all_rows outside
