-- What the loops over a string's characters, from the end, have found: at the last separator, or, where there is none, at the start.
use Rattle.std.specs.Prelude.{true, false, List, [], ◌∷◌, ◌++◌, ℕ, ◌<◌, ◌≡◌, length, Some, None}
use Rattle.std.specs.List.{push}
use Rattle.std.proofs.Common.{refl, sym, ap, subst, ◌∙◌, append_assoc, append-nil, arith, Fits, w8, get_or}
use Rattle.std.proofs.lemmas.Nat.{or_comm}
use Rattle.std.proofs.Math.Seq.{get_or-append_seam}
use borrow.Author.Tests.{ne_eqb}
use lib.Bits.{bit_or}
use Rattle.laws.specs.Lists.{any}
use Rattle.laws.proofs.Bools.{or_first, or_second}
use Rattle.paper.specs.Charset.{is_separator}
use Rattle.answers.specs.Reading.{data_part, prefix_part, separator_missing}
use Rattle.answers.proofs.Split.{separator_seen, data_part_of, prefix_part_of}
use Rattle.gf32.specs.Classes.{class_of, Joined}
use Rattle.gf32.proofs.ClassLaws.{joined_none, joined_more}
use Rattle.decode.specs.Scan.{DataScanned}

-- the characters that a loop has passed, whose classes are joined, stand behind those that are left
pub record Passed (s left : List ℕ) (classes : ℕ) : Type 0 where
  pub passed : List ℕ
  pub whole : left ++ passed ≡ s
  pub joined : Joined classes passed

pub begun : (s : List ℕ) → Passed s s 0
begun s = record { passed = []; whole = append-nil s; joined = joined_none }

-- the last of those that are left is one of the string's bytes
last_byte : (s left less passed : List ℕ) (c : ℕ) → ((i : ℕ) → Fits w8 (get_or s i 0)) → left ≡ push less c → left ++ passed ≡ s → c < 256
last_byte s left less passed c bytes last whole =
    subst (λ (k : ℕ). k < 256) (ap (λ (l : List ℕ). get_or l (length less) 0) parts ∙ there) ((bytes (length less)).fits)
  where
    parts : s ≡ less ++ c ∷ passed
    parts = sym whole ∙ ap (λ (l : List ℕ). l ++ passed) last ∙ append_assoc less (c ∷ []) passed

    there : get_or (less ++ c ∷ passed) (length less) 0 ≡ c
    there = get_or-append_seam less c passed 0

pub one_more : (s left less : List ℕ) (classes class c : ℕ) → ((i : ℕ) → Fits w8 (get_or s i 0)) → left ≡ push less c → class ≡ class_of c
    → Passed s left classes → Passed s less (bit_or classes class)
one_more s left less classes class c bytes last is p =
    record {
      passed = c ∷ p.passed;
      whole = sym (append_assoc less (c ∷ []) p.passed) ∙ ap (λ (l : List ℕ). l ++ p.passed) (sym last) ∙ p.whole;
      joined = rw (is, or_comm classes (class_of c)) (joined_more c classes p.passed (last_byte s left less p.passed c bytes last p.whole) p.joined);
    }

nothing_left : (s left : List ℕ) (classes : ℕ) → length left ≡ 0 → (p : Passed s left classes) → p.passed ≡ s
nothing_left s [] classes e p = p.whole
nothing_left s (c ∷ left) classes e p = absurd (omega arith)

pub all_passed : (s left : List ℕ) (classes : ℕ) → length left ≡ 0 → Passed s left classes → Joined classes s
all_passed s left classes e p = subst (Joined classes) (nothing_left s left classes e p) p.joined

-- ---- the data part: no separator was passed

pub record NonePassed (s left : List ℕ) (classes : ℕ) : Type 0 where
  pub so_far : Passed s left classes
  pub none : any is_separator so_far.passed ≡ false

pub none_begun : (s : List ℕ) → NonePassed s s 0
unfolding begun
none_begun s = record { so_far = begun s; none = refl }

pub none_more : (s left less : List ℕ) (classes class c : ℕ) → ((i : ℕ) → Fits w8 (get_or s i 0)) → left ≡ push less c → class ≡ class_of c → (c ≡ 49 → ⊥)
    → NonePassed s left classes → NonePassed s less (bit_or classes class)
unfolding one_more
none_more s left less classes class c bytes last is other p =
    record { so_far = one_more s left less classes class c bytes last is p.so_far; none = rw (ne_eqb c 49 other) p.none }

-- without a separator the data part is all
pub no_separator : (s : List ℕ) → any is_separator s ≡ false → data_part s ≡ s
unfolding data_part
no_separator [] none = refl
no_separator (c ∷ s) none = rw (or_second (is_separator c) (any is_separator s) none, or_first (is_separator c) (any is_separator s) none)

pub stopped : (s left less : List ℕ) (classes c at : ℕ) → left ≡ push less c → at ≡ length less → c ≡ 49 → NonePassed s left classes
    → DataScanned s (record { separator = Some at; classes = classes })
unfolding separator_missing
stopped s left less classes c at last place separator p =
    record {
      separator = rw (seen, prefix, place);
      joined = subst (Joined classes) (sym behind) p.so_far.joined;
    }
  where
    passed : List ℕ
    passed = p.so_far.passed

    whole : s ≡ less ++ 49 ∷ passed
    whole = sym p.so_far.whole ∙ ap (λ (l : List ℕ). l ++ passed) (last ∙ ap (push less) separator) ∙ append_assoc less (49 ∷ []) passed

    seen : any is_separator s ≡ true
    seen = ap (any is_separator) whole ∙ separator_seen less passed

    behind : data_part s ≡ passed
    behind = ap data_part whole ∙ data_part_of less passed p.none

    prefix : prefix_part s ≡ less
    prefix = ap prefix_part whole ∙ prefix_part_of less passed p.none

pub ended : (s left : List ℕ) (classes : ℕ) → length left ≡ 0 → NonePassed s left classes → DataScanned s (record { separator = None; classes = classes })
unfolding separator_missing
ended s left classes e p =
    record { separator = rw unseen; joined = subst (Joined classes) (all ∙ sym (no_separator s unseen)) p.so_far.joined }
  where
    all : p.so_far.passed ≡ s
    all = nothing_left s left classes e p.so_far

    unseen : any is_separator s ≡ false
    unseen = ap (any is_separator) (sym all) ∙ p.none
