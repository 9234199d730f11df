-- Document 01, "Answers": what `split` gives as numbers: 0 and the lengths, or the refusal's number and lengths of 0.
use Rattle.std.specs.Prelude.{◌≡◌, Ok, Err}
use Rattle.std.proofs.Common.{refl}
use Rattle.numbers.specs.declared.Refusal.{Refusal}
use Rattle.numbers.specs.Numbers.{number_of, number_in}
use Rattle.answers.specs.Numbers.{prefix_in, symbols_in}
use Rattle.answers.specs.declared.Parts.{Parts}

pub numbers_of_into : (p : Parts) → (number_in (Ok p) ≡ 0) × (prefix_in (Ok p) ≡ p.prefix) × (symbols_in (Ok p) ≡ p.symbols)
numbers_of_into p = (refl, refl, refl)

pub numbers_of_refused : (r : Refusal) → (number_in {A = Parts} (Err r) ≡ number_of r) × (prefix_in (Err r) ≡ 0) × (symbols_in (Err r) ≡ 0)
numbers_of_refused r = (refl, refl, refl)
