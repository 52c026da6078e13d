-- What a store answers: one whole response over HTTP/1.1 (RFC 9112), whose body is JSON (RFC 8259).
use Rattle.std.specs.Prelude.{◌≡◌, ◌≢◌, ℕ, Bool, false, List, [], ◌∷◌, Option, Some, option_and_then, unwrap_or, codes, decimal, Ok}
use Rattle.httparse.specs.Grammar.{ResponseHead, ReadsResponse, status_code}
use Rattle.http1.specs.declared.conn.Limits.{Limits}
use Rattle.http1.specs.declared.framing.Framing.{Framing}
use Rattle.http1.specs.declared.framing.Framing.TheVariants.{UntilClose}
use Rattle.http1.specs.declared.framing.MethodKind.TheVariants.{Other}
use Rattle.http1.specs.Framing.{response_framing}
use Rattle.http1.specs.Message.{known_of}
use Rattle.http1.specs.Body.{Body, ReadsBody}
use Rattle.serde_json.specs.Data.{Data, Items, no_items, item}
use Rattle.serde_json.specs.Find.{get, as_bool, as_str, as_array}
use Rattle.serde_json.specs.Read.{read}
use Rattle.wb_base.specs.declared.rows.Row.{Row}
use Rattle.wb_etcd.specs.KeyTexts.{key_text}
use Rattle.wb_etcd.specs.Transactions.{base64_text}

-- how much of a chunked body may be no content
abbrev pub answer_limits : Limits
answer_limits = record { max_head_len = 16384; max_extensions_len = 16384; max_trailers_len = 16384 }

-- the bytes begin with the head of a response of status 200, which tells where its body ends
pub record HasGoodHead (bytes : List ℕ) (framing : Framing) (after : List ℕ) : Type 0 where
  pub head : ResponseHead
  pub reads : ReadsResponse bytes head after
  pub good : status_code head ≡ 200
  pub framed : response_framing Other 200 head.minor (known_of head.fields) ≡ Ok framing
  pub ends : framing ≢ UntilClose

-- the bytes are a whole body with this content, and nothing else
pub record IsWholeBody (framing : Framing) (bytes content : List ℕ) : Type 0 where
  pub body : Body
  pub reads : ReadsBody answer_limits framing bytes body []
  pub holds : body.bytes ≡ content

-- the bytes are one whole response of status 200 with this content, and nothing else
pub record IsResponse (bytes content : List ℕ) : Type 0 where
  pub framing : Framing
  pub after : List ℕ
  pub head : HasGoodHead bytes framing after
  pub body : IsWholeBody framing after content

-- the bytes are a whole response whose content is this value as JSON
pub record IsAnswer (bytes : List ℕ) (answer : Data) : Type 0 where
  pub content : List ℕ
  pub whole : IsResponse bytes content
  pub told : read content ≡ Some answer

-- the text under a key
abbrev pub text_under : List ℕ → Data → Option (List ℕ)
text_under key value = option_and_then as_str (get key value)

-- whether a flag is there and set
abbrev pub is_set : List ℕ → Data → Bool
is_set key answer = unwrap_or (option_and_then as_bool (get key answer)) false

-- a transaction was made, since what it compares was so
abbrev pub is_made : Data → Bool
is_made answer = is_set (codes "succeeded") answer

-- there is more under the keys than was told
abbrev pub has_more : Data → Bool
has_more answer = is_set (codes "more") answer

-- the store's revision as it answered
abbrev pub HasRevision : Data → ℕ → Type 0
HasRevision answer revision = option_and_then (text_under (codes "revision")) (get (codes "header") answer) ≡ Some (decimal revision)

-- the keys that are told, with their values
abbrev pub told_items : Data → Items
told_items answer = unwrap_or (option_and_then as_array (get (codes "kvs") answer)) no_items

-- the first key that is told was last put at this revision, and at 0 where none is told
abbrev pub WasPutAt : Items → ℕ → Type 0
WasPutAt no_items revision = revision ≡ 0
WasPutAt (item first others) revision = text_under (codes "mod_revision") first ≡ Some (decimal revision)

-- a key that is told is that of a row, and its value the row's text; a value that is empty is left out
pub record IsRowOf (prefix : List ℕ) (told : Data) (row : Row) : Type 0 where
  pub key : text_under (codes "key") told ≡ Some (base64_text (key_text prefix row.key))
  pub text : unwrap_or (text_under (codes "value") told) [] ≡ base64_text row.text

-- what is told are these rows, one by one
abbrev pub AreRowsOf : List ℕ → Items → List Row → Type 0
AreRowsOf prefix no_items rows = rows ≡ []
AreRowsOf prefix (item told others) rows = (row : Row) × (later : List Row) × (rows ≡ row ∷ later) × IsRowOf prefix told row × AreRowsOf prefix others later
