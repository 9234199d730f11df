-- `gf32::from_byte` meets its promise: what the class tells of the byte (proofs/ClassLaws.antt).
use mathlib.Core.Path.{◌≡◌, sym, ap, ◌∙◌}
use Prim.Native.Nat.{ℕ, ◌<◌}
use lib.ListN.{get_or}
use Rattle.gf32.specs.Bytes.{meaning}
use Rattle.gf32.specs.Classes.{class_of, outside_in}
use Rattle.gf32.specs.declared.tables.TheConstants.{CLASSES}
use Rattle.gf32.proofs.ClassLaws.{classes_given, entry, class_read, inside_told}
use Rattle.gf32.proofs.from_byte.Goals as goal

-- the code's entry
class : (c : ℕ) → c < 256 → get_or CLASSES c 0 ≡ class_of c
class c byte = entry CLASSES c classes_given byte

pub returns-then-has_outside : goal.returns-then-has_outside
unfolding meaning
returns-then-has_outside c =
    let byte = c.ranges.c.fits in
    let told = ap outside_in (sym (class c.args.c byte)) ∙ sym c.has_outside.ensures ∙ c.if-has_outside.true in
    rw (inside_told c.args.c byte told)

pub returns : goal.returns
unfolding meaning
returns c =
    let byte = c.ranges.c.fits in
    let told = ap outside_in (sym (class c.args.c byte)) ∙ sym c.has_outside.ensures ∙ c.if-has_outside.false in
    rw (inside_told c.args.c byte told, c.class_symbol.ensures ∙ class_read CLASSES c.args.c classes_given byte)
