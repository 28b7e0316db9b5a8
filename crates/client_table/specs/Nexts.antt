-- What is told of what a client asks next.
use Rattle.client_table.specs.Clients.{Asks, Writes, Reads, Nothing}
use Rattle.client_table.specs.declared.next.Next.{Next}
use Rattle.client_table.specs.declared.next.Next.TheVariants as next

abbrev pub told_to : Next → Asks
told_to (next.Write bytes) = Writes bytes.now
told_to (next.Read most) = Reads most
told_to next.Nothing = Nothing
