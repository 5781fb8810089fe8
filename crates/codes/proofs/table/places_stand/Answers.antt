use Rattle.codes.proofs.Laws.{numbers_tell_codes, places_tell_cells, places_tell_parties}
use Rattle.codes.proofs.table.places_stand.Goals as goal

pub returns : goal.returns
returns c = record { codes = numbers_tell_codes; parties = places_tell_parties; cells = places_tell_cells }
