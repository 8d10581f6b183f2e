-- What a reader of documents answers beside a definition (Elasticsearch Reference 8, 'Bulk API': errors of items).
use Rattle.std.specs.Prelude.{Result, Ok, Err}
use Rattle.agg_reading.specs.declared.fault.RequestFault.{RequestFault}
use Rattle.agg_reading.specs.declared.fault.RequestFault.TheVariants as reading
use Rattle.agg_reading.specs.Reading.{Reading}
use Rattle.agg_reading.specs.Reading.{Fails as FailsReading, Gives as GivesReading}
use Rattle.document_rows.specs.declared.fault.ItemFault.{ItemFault}
use Rattle.document_rows.specs.declared.fault.ItemFault.TheVariants.{Refused, Memory}

-- the refusal of an item as that of a reading: its number, and where
abbrev pub as_reading : ItemFault → RequestFault
as_reading (Refused refusal) = reading.Bad refusal.number refusal.path
as_reading Memory = reading.Memory

-- what a fault says of the definition; want of memory says nothing
abbrev pub Fails : {Y : Type 0} → ItemFault → Reading Y → Type 0
Fails fault read = FailsReading (as_reading fault) read

-- What a function answered, seen by view, is what the definition gives, unless memory ran out.
abbrev pub Gives : {X Y : Type 0} → (X → Y) → Result X ItemFault → Reading Y → Type 0
Gives view (Ok x) read = GivesReading view (Ok x) read
Gives view (Err e) read = Fails e read
