-- What is left of a listing.
use Rattle.std.specs.Prelude.{List, [], ◌++◌, Some, None, Option}
use Rattle.std.specs.Option.{option_to_list}
use Rattle.sheet.specs.Sheets.{draft_of}
use Rattle.sheet.specs.Texts.{lines}
use Rattle.monitor.specs.Monitors.{state_of}
use Rattle.listing.specs.Listings.{rows}
use Rattle.listing.specs.declared.flight.Flight.{Flight}
use Rattle.listing.specs.declared.line.Line.{Line}
use Rattle.listing.specs.declared.listing.Listing.{Listing}

-- The rows still to come.
abbrev pub rows_left : Flight → List Line
rows_left f = rows (state_of f.monitor) (draft_of f.sheet).entries (lines f.rest.now)

-- A sheet that is held back has no flight, and no rows.
abbrev pub flight_left : Option Flight → List Line
flight_left None = []
flight_left (Some f) = rows_left f

-- The lines still to come.
abbrev pub left : Listing → List Line
left l = option_to_list l.first ++ flight_left l.flight
