-- A network and an order as numbers, case by case: first the answer's number, then the value.
use mathlib.Core.Path.{◌≡◌, refl}
use Rattle.hrp.specs.Numbers.{number_of_network, value_of_network, number_of_order, value_of_order}
use Rattle.hrp.specs.declared.Network.TheVariants.{Mainnet, Testnet, Regtest}
use Rattle.std.specs.Prelude.{Some, None}
use Rattle.std.specs.declared.cmp.Ordering.TheVariants.{Less, Equal, Greater}

pub of_mainnet : (number_of_network (Some Mainnet) ≡ 0) × (value_of_network (Some Mainnet) ≡ 1)
of_mainnet = (refl, refl)

pub of_testnet : (number_of_network (Some Testnet) ≡ 0) × (value_of_network (Some Testnet) ≡ 2)
of_testnet = (refl, refl)

pub of_regtest : (number_of_network (Some Regtest) ≡ 0) × (value_of_network (Some Regtest) ≡ 3)
of_regtest = (refl, refl)

pub of_unknown : (number_of_network None ≡ 0) × (value_of_network None ≡ 0)
of_unknown = (refl, refl)

pub of_less : (number_of_order Less ≡ 0) × (value_of_order Less ≡ 1)
of_less = (refl, refl)

pub of_equal : (number_of_order Equal ≡ 0) × (value_of_order Equal ≡ 0)
of_equal = (refl, refl)

pub of_greater : (number_of_order Greater ≡ 0) × (value_of_order Greater ≡ 2)
of_greater = (refl, refl)
