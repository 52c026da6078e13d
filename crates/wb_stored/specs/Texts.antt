-- The statements over the two tables.
use Rattle.std.specs.Prelude.{ℕ, List, codes}

abbrev pub make_record : List ℕ
make_record = codes "CREATE TABLE IF NOT EXISTS record (kind INTEGER NOT NULL, tenant INTEGER NOT NULL, a INTEGER NOT NULL, b INTEGER NOT NULL, body TEXT NOT NULL, PRIMARY KEY (kind, tenant, a, b))"

abbrev pub make_sealed : List ℕ
make_sealed = codes "CREATE TABLE IF NOT EXISTS sealed (tenant INTEGER NOT NULL, a INTEGER NOT NULL, body TEXT NOT NULL, PRIMARY KEY (tenant, a))"

abbrev pub put_record : List ℕ
put_record = codes "INSERT INTO record (kind, tenant, a, b, body) VALUES (?1, ?2, ?3, ?4, ?5) ON CONFLICT (kind, tenant, a, b) DO UPDATE SET body = excluded.body"

abbrev pub put_sealed : List ℕ
put_sealed = codes "INSERT INTO sealed (tenant, a, body) VALUES (?1, ?2, ?3) ON CONFLICT (tenant, a) DO UPDATE SET body = excluded.body"

-- as those two, where no row has the key
abbrev pub insert_record : List ℕ
insert_record = codes "INSERT INTO record (kind, tenant, a, b, body) VALUES (?1, ?2, ?3, ?4, ?5)"

abbrev pub insert_sealed : List ℕ
insert_sealed = codes "INSERT INTO sealed (tenant, a, body) VALUES (?1, ?2, ?3)"

abbrev pub drop_trail : List ℕ
drop_trail = codes "DELETE FROM record WHERE kind = 6 AND tenant = ?1 AND a = ?2"

abbrev pub drop_sealed : List ℕ
drop_sealed = codes "DELETE FROM sealed WHERE tenant = ?1 AND a = ?2"

abbrev pub read_record : List ℕ
read_record = codes "SELECT kind, tenant, a, b, body FROM record ORDER BY kind, tenant, a, b"

abbrev pub read_sealed : List ℕ
read_sealed = codes "SELECT tenant, a, body FROM sealed ORDER BY tenant, a"
