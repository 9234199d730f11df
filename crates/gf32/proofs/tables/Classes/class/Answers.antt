-- The table's entry at the byte.
use Rattle.gf32.specs.declared.tables.TheConstants.{CLASSES}
use Rattle.gf32.proofs.ClassLaws.{classes_given, entry}
use Rattle.gf32.proofs.tables.Classes.class.Goals as goal

pub returns : goal.returns
returns c = entry CLASSES c.args.byte classes_given c.ranges.byte.fits
