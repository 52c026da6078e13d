-- What a store is asked, as JSON: etcd's transactions and ranges, whose keys and values are in base64 (RFC 4648, section 4).
use Rattle.std.specs.Prelude.{ℕ, List, [], ◌∷◌, ◌++◌, codes, decimal, flat_map, length}
use Rattle.base64.specs.Engines.{standard}
use Rattle.base64.specs.GeneralPurpose.{encode_of}
use Rattle.wb_base.specs.declared.rows.Change.{Change}
use Rattle.wb_base.specs.declared.rows.Change.TheVariants.{Put, DropReport}
use Rattle.wb_etcd.specs.KeyTexts.{Keys, key_text, trunk_text, holder_text, all_under}

-- bytes in base64
unfoldable pub base64_text : List ℕ → List ℕ
base64_text bytes = encode_of standard bytes

-- puts a value under a key
unfoldable pub put_text : List ℕ → List ℕ → List ℕ
put_text key value = codes "{\"request_put\":{\"key\":\"" ++ (base64_text key ++ (codes "\",\"value\":\"" ++ (base64_text value ++ codes "\"}}")))

-- deletes what stands under keys
unfoldable pub delete_text : Keys → List ℕ
delete_text keys = codes "{\"request_delete_range\":{\"key\":\"" ++ (base64_text keys.from ++ (codes "\",\"range_end\":\"" ++ (base64_text keys.below ++ codes "\"}}")))

-- the operations that make a change: a row is put, and a report goes by its trail and by its sealed answers
unfoldable pub change_text : List ℕ → Change → List ℕ
change_text prefix (Put row) = put_text (key_text prefix row.key) row.text
change_text prefix (DropReport tenant number) = delete_text (all_under (trunk_text prefix 6 tenant number)) ++ (codes "," ++ delete_text (all_under (trunk_text prefix 7 tenant number)))

-- how many operations a change takes
abbrev pub operations : Change → ℕ
operations (Put row) = 1
operations (DropReport tenant number) = 2

-- the operations that make changes in turn, with commas between
abbrev pub changes_text : List ℕ → List Change → List ℕ
changes_text prefix [] = []
changes_text prefix (change ∷ changes) = change_text prefix change ++ flat_map (λ next. codes "," ++ change_text prefix next) changes

-- makes operations all together, where the holder's key was last put at this revision: 0 where it was never put
unfoldable pub transaction_text : List ℕ → ℕ → List ℕ → List ℕ
transaction_text prefix revision operations =
    codes "{\"compare\":[{\"key\":\"" ++ (base64_text (holder_text prefix)
    ++ (codes "\",\"mod_revision\":\"" ++ (decimal revision
    ++ (codes "\",\"result\":\"EQUAL\",\"target\":\"MOD\"}],\"success\":[" ++ (operations ++ codes "]}")))))

-- changes of the rows by the host that holds the store since this revision
unfoldable pub batch_text : List ℕ → ℕ → List Change → List ℕ
batch_text prefix revision changes = transaction_text prefix revision (changes_text prefix changes)

-- the host that sends it holds the store from then on, where nobody took it since this revision
unfoldable pub take_over_text : List ℕ → ℕ → List ℕ
take_over_text prefix revision = transaction_text prefix revision (put_text (holder_text prefix) [])

-- what stands under one key
unfoldable pub one_text : List ℕ → List ℕ
one_text key = codes "{\"key\":\"" ++ (base64_text key ++ codes "\"}")

-- what stood under keys at a revision, so many of them at most, in their order
unfoldable pub range_text : Keys → ℕ → ℕ → List ℕ
range_text keys limit revision =
    codes "{\"key\":\"" ++ (base64_text keys.from
    ++ (codes "\",\"limit\":\"" ++ (decimal limit
    ++ (codes "\",\"range_end\":\"" ++ (base64_text keys.below
    ++ (codes "\",\"revision\":\"" ++ (decimal revision ++ codes "\"}")))))))

-- the request that brings a text to an endpoint, after whose answer the connection is closed (RFC 9112)
unfoldable pub request_text : List ℕ → List ℕ → List ℕ → List ℕ
request_text endpoint path body =
    codes "POST " ++ (path ++ (codes " HTTP/1.1\r\nHost: " ++ (endpoint
    ++ (codes "\r\nConnection: close\r\nContent-Type: application/json\r\nContent-Length: " ++ (decimal (length body)
    ++ (codes "\r\n\r\n" ++ body))))))
