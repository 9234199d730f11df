-- The symbol that the byte's class tells.
use mathlib.Core.Path.{◌∙◌, ap}
use Rattle.gf32.specs.Classes.{symbol_in}
use Rattle.gf32.proofs.ClassLaws.{symbol_told}
use Rattle.gf32.proofs.tables.Classes.symbol.Goals as goal

pub returns : goal.returns
returns c = c.class_symbol.ensures ∙ ap symbol_in c.class.ensures ∙ symbol_told c.args.byte c.ranges.byte.fits
