-- Where rows are kept, and the word that says it.
use Rattle.std.specs.Prelude.{ℕ, ◌≡◌, ◌≢◌, ◌⊎◌, ◌++◌, List, [], codes}
use Rattle.wb_cli.specs.declared.places.Place.{Place}
use Rattle.wb_cli.specs.declared.places.Place.TheVariants.{File, Etcd}
use Rattle.wb_etcd.specs.StoreNames.{IsStoreName, name_text}

-- a word begins as the name of a store of etcd
abbrev pub BeginsAsEtcd : List ℕ → Type 0
BeginsAsEtcd word = (rest : List ℕ) × (word ≡ codes "etcd://" ++ rest)

-- the path of a file is not empty, and does not begin as the name of a store of etcd
pub record IsFile (path : List ℕ) : Type 0 where
  pub some : path ≢ []
  pub plain : BeginsAsEtcd path → ⊥

-- a word names a store of etcd
abbrev pub IsEtcd : List ℕ → Type 0
IsEtcd word = (endpoints : List (List ℕ)) × (prefix : List ℕ) × IsStoreName word endpoints prefix

-- a word says where rows are kept: in the file of a path, or in a store of etcd
abbrev pub IsStoreWord : List ℕ → Type 0
IsStoreWord word = IsFile word ⊎ IsEtcd word

-- the word that names a place
abbrev pub word_of : Place → List ℕ
word_of (File path) = path
word_of (Etcd store) = name_text store.endpoints store.prefix

-- a place is named by one word
abbrev pub IsPlace : Place → Type 0
IsPlace (File path) = IsFile path
IsPlace (Etcd store) = IsStoreName (name_text store.endpoints store.prefix) store.endpoints store.prefix
