-- A database file with its log may go to another thread: it owns its buffers, and two files whose record of calls is no more than a mark.
use denote.RattleType.{RattleType}
use denote.Param.Send.{IsSend, owning_send, sendable}
use Rattle.std.proofs.Crossing.{crosses}
use Rattle.sqlite_disk.specs.declared.Disk.{Ghosts}
use Rattle.sqlite_std_file.specs.contracts.host.Host as Host
use Rattle.sqlite_std_file.specs.contracts.record.Record as Record
use Rattle.sqlite_wal.specs.contracts.batch.Batch as Frames
use Rattle.sqlite_wal.specs.contracts.log.Log as Log
use Rattle.sqlite_pager.specs.contracts.cache.Cache as Cache
use Rattle.sqlite_pager.specs.contracts.layers.Layer as Layer
use Rattle.sqlite_pager.specs.contracts.pager.Pager as Pager
use Rattle.sqlite_pool.specs.contracts.backing.Backing as Backing
use Rattle.sqlite_pool.specs.contracts.free_set.FreeSet as FreeSet
use Rattle.sqlite_pool.specs.contracts.pool.Pool as Pool
use Rattle.sqlite_store.specs.contracts.catalog.Wanted as Wanted
use Rattle.sqlite_store.specs.contracts.cursor.Cursor as Cursor
use Rattle.sqlite_store.specs.contracts.saved.Saved as Saved
use Rattle.sqlite_store.specs.contracts.store.FileStore as FileStore

record_send : IsSend (Record.the_field).row
record_send = owning_send Record.the_type (search sendable, tt) (λ d. tt) (λ k x w. tt)

pub host_send : IsSend (Host.the_field).row
host_send = search (record_send, sendable, crosses) depth 20

frames_send : IsSend (Frames.the_field).row
frames_send = search (sendable, crosses) depth 20

layer_send : IsSend (Layer.the_field).row
layer_send = search (frames_send, sendable, crosses) depth 20

cache_send : IsSend (Cache.the_field).row
cache_send = search (sendable, crosses) depth 20

free_set_send : IsSend (FreeSet.the_field).row
free_set_send = search (sendable, crosses) depth 20

wanted_send : IsSend (Wanted.the_field).row
wanted_send = search (sendable, crosses) depth 20

saved_send : IsSend (Saved.the_field).row
saved_send = search (wanted_send, sendable, crosses) depth 20

cursor_send : IsSend (Cursor.the_field).row
cursor_send = search (sendable, crosses) depth 40

module _ (D : RattleType) (g : Ghosts D.Denot) (s : IsSend D) where
  log_send : IsSend (Log.the_field D g).row
  log_send = search (sendable, crosses) depth 20

  pager_send : IsSend (Pager.the_field D g).row
  pager_send = search (log_send, frames_send, layer_send, cache_send, sendable, crosses) depth 20

  backing_send : IsSend (Backing.the_field D g).row
  backing_send = search (pager_send, sendable, crosses) depth 20

  pool_send : IsSend (Pool.the_field D g).row
  pool_send = search (backing_send, free_set_send, sendable, crosses) depth 20

  pub store_send : IsSend (FileStore.the_field D g).row
  store_send = search (pool_send, wanted_send, saved_send, cursor_send, sendable, crosses) depth 40
