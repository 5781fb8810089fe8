use Rattle.std.proofs.Common.{◌≡◌, get_or, ap, ◌∙◌, rules}
use Rattle.std.specs.Option.{option_map}
use Rattle.closing.specs.Prices.{is_price_of}
use Rattle.price_grid.specs.Blanks.{no_price}
use Rattle.price_grid.proofs.Spots.{by_place}
use Rattle.price_grid.proofs.grid.search_price.Goals as goal

pub returns : goal.returns
returns c =
    let ps = c.args.prices.now in
    let read : c.map.result ≡ option_map (λ i. get_or ps i no_price) c.find_price.result = search rules in
    read ∙ ap (option_map (λ i. get_or ps i no_price)) c.find_price.ensures.value ∙ by_place (is_price_of c.args.node c.args.hour) ps no_price
