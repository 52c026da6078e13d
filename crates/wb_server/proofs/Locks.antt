-- What holds by each lock.
use Rattle.wb_cli.specs.declared.plans.Lock.{Lock}
use Rattle.wb_cli.specs.declared.plans.Lock.TheVariants.{Mutex, Ticket}
use Rattle.wb_server.specs.Ended.{ByLock}

pub by_lock : (lock : Lock) (A B C D : Type 0) → (A → C) → (B → D) → ByLock lock A B → ByLock lock C D
by_lock Mutex A B C D mutex ticket = mutex
by_lock Ticket A B C D mutex ticket = ticket
