use Rattle.price_grid.specs.Grid.{spot_place}
use Rattle.price_grid.proofs.Spots.{none_in}
use Rattle.price_grid.proofs.grid.index_prices.Goals as goal

pub loop-p-init : goal.loop-p-init
loop-p-init c = λ node hour j. none_in 400 (spot_place node hour)
