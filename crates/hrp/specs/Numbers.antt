-- Document 01, "Answers": a network and an order as numbers. Nothing is refused, so the answer's number is that of what is accepted; a value tells
-- the cases apart, and is 0 for a prefix of no known network and for prefixes that are equal.
use Rattle.std.specs.Prelude.{ℕ, Option, Some, None, Ok}
use Rattle.std.specs.declared.cmp.Ordering.{Ordering}
use Rattle.std.specs.declared.cmp.Ordering.TheVariants.{Less, Equal, Greater}
use Rattle.numbers.specs.Numbers.{number_in}
use Rattle.hrp.specs.declared.Network.{Network}
use Rattle.hrp.specs.declared.Network.TheVariants.{Mainnet, Testnet, Regtest}

abbrev pub number_of_network : Option Network → ℕ
number_of_network network = number_in (Ok network)

abbrev pub value_of_network : Option Network → ℕ
value_of_network (Some Mainnet) = 1
value_of_network (Some Testnet) = 2
value_of_network (Some Regtest) = 3
value_of_network None = 0

abbrev pub number_of_order : Ordering → ℕ
number_of_order order = number_in (Ok order)

abbrev pub value_of_order : Ordering → ℕ
value_of_order Less = 1
value_of_order Equal = 0
value_of_order Greater = 2
