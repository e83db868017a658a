-- A host may be shared by threads where its device may go to another, and a seat may go to another.
use denote.RattleType.{RattleType}
use denote.Ref.{NamedLft}
use denote.Param.Send.{IsSend, IsSync, sendable}
use Rattle.std.proofs.Crossing.{crosses}
use Rattle.std.specs.contracts.sync.Mutex as mutex
use Rattle.std.specs.declared.sync.ledger.Ledger.{Ghosts as LedgerGhosts}
use Rattle.disk_model.specs.declared.disk.Disk.{Ghosts}
use Rattle.front_word.specs.declared.naming.WordNaming.{Ghosts as WordGhosts}
use Rattle.engine_host.specs.declared.naming.Naming.{Ghosts as NamingGhosts}
use Rattle.engine_host.specs.contracts.locked.Locked as locked
use Rattle.engine_host.specs.contracts.locked.Locked.TheInside as inside
use Rattle.engine_host.specs.contracts.host.Host as host
use Rattle.engine_host.specs.contracts.seat.Seat as seat
use Rattle.front_word.proofs.passes.Publisher.TheSendSync as publishers
use Rattle.front_word.proofs.word.FrontWord.TheSendSync as words
use Rattle.std.proofs.sync.ledger.Book.TheSendSync as books
use Rattle.std.specs.contracts.sync.ledger.Book as book
use Rattle.front_word.specs.contracts.passes.Publisher as publisher
use Rattle.front_word.specs.contracts.word.FrontWord as word
use Rattle.engine_host.specs.contracts.entry.Entry as entry
use Rattle.engine_host.specs.contracts.entry.EntryFronted.TheImpl as fronted
use Rattle.engine_host.proofs.entry.Entry.TheSendSync as entries
use Rattle.engine_host.proofs.seat.Seat.TheSendSync as seats
use Rattle.plant_core.proofs.Crossing.{Plant-send}

pub Seat-row-send : (N : RattleType) (n : NamingGhosts N.Denot) (w : WordGhosts N.Denot) (l : LedgerGhosts N.Denot) → IsSend N → IsSend (seat.the_row N n w l)
Seat-row-send N n w l send = search (seats.the_send, sendable, crosses) depth 60

Publisher-send : (N : RattleType) (w : WordGhosts N.Denot) → IsSend N → IsSend (publisher.the_field entry.the_row N fronted.ghosts w).row
Publisher-send N w send = search (publishers.the_send, entries.the_send, sendable, crosses) depth 60

Book-send : (N : RattleType) (l : LedgerGhosts N.Denot) → IsSend N → IsSend (book.the_field N l).row
Book-send N l send = search (books.the_send, sendable, crosses) depth 60

Inside-send : (κ : NamedLft) (D N : RattleType) (d : Ghosts D.Denot) (n : NamingGhosts N.Denot) (w : WordGhosts N.Denot) (l : LedgerGhosts N.Denot) → IsSend D → IsSend N → IsSend (inside.the_field κ D N d n w l).row
Inside-send κ D N d n w l send sendN = search (Plant-send, Book-send, Publisher-send, sendable) depth 60 fits 10000

Inside-row-send : (κ : NamedLft) (D N : RattleType) (d : Ghosts D.Denot) (n : NamingGhosts N.Denot) (w : WordGhosts N.Denot) (l : LedgerGhosts N.Denot) → IsSend D → IsSend N → IsSend (inside.the_row κ D N d n w l)
Inside-row-send κ D N d n w l send sendN = search (Inside-send, sendable)

pub Locked-row-send : (κ : NamedLft) (D N : RattleType) (d : Ghosts D.Denot) (n : NamingGhosts N.Denot) (w : WordGhosts N.Denot) (l : LedgerGhosts N.Denot) → IsSend D → IsSend N → IsSend (locked.the_row κ D N d n w l)
Locked-row-send κ D N d n w l send sendN = search (Inside-row-send, sendable)

Lock-sync : (R : RattleType) → IsSend R → IsSync (mutex.the_row R)
Lock-sync R send = search crosses

Word-sync : (N : RattleType) (w : WordGhosts N.Denot) → IsSync N → IsSync (word.the_field entry.the_row N w fronted.ghosts).row
Word-sync N w sync = search (words.the_field_sync, entries.the_send, sendable, crosses) depth 60

Host-sync : (κ : NamedLft) (D N : RattleType) (d : Ghosts D.Denot) (n : NamingGhosts N.Denot) (w : WordGhosts N.Denot) (l : LedgerGhosts N.Denot) → IsSend D → IsSend N → IsSync N → IsSync (host.the_field κ D N d n w l).row
Host-sync κ D N d n w l send sendN syncN = search (Locked-row-send, Lock-sync, Word-sync, sendable, crosses) depth 60 fits 10000

pub Host-row-sync : (κ : NamedLft) (D N : RattleType) (d : Ghosts D.Denot) (n : NamingGhosts N.Denot) (w : WordGhosts N.Denot) (l : LedgerGhosts N.Denot) → IsSend D → IsSend N → IsSync N → IsSync (host.the_row κ D N d n w l)
Host-row-sync κ D N d n w l send sendN syncN = search (Host-sync, sendable)
