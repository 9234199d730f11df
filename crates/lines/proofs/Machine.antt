-- The kept bytes and the answers as plain lists, with no buffers: input that follows input goes on from the kept bytes, and with the last
-- line's answer at the end all answers are those of `output_of`. A line in front of the lines of the rest carries it.
use mathlib.Core.Path.{◌≡◌, refl, sym, ap, ◌∙◌}
use mathlib.Core.Bool.{Bool, true, false}
use mathlib.Core.List.{List, [], ◌∷◌, ◌++◌, append_assoc, append-nil}
use Prim.Native.Nat.{ℕ, suc, ◌≤◌, ◌<◌}
use native.Mathlib.Omega.{arith}
use lib.Dec.{eqb, ltb}
use lib.ListN.{length, take, length-append}
use lib.Seq.{take_all, take-append-le, length-take-le}
use borrow.Author.Tests.{le-ltb, ltb-true, ltb-false, ne_eqb}
use Rattle.laws.specs.Pick.{pick}
use Rattle.lines.specs.Lines.{onto, lines_of, answer_to, answers_to, output_of}
use Rattle.lines.proofs.Cut.{cut_answer}

unfoldable pub kept_with : ℕ → List ℕ → List ℕ
kept_with c k = pick (ltb (length k) 91) (k ++ c ∷ []) k

-- the kept bytes once s is taken, from k on
abbrev pub kept_after : List ℕ → List ℕ → List ℕ
kept_after [] k = k
kept_after (c ∷ s) k = pick (eqb c 10) (kept_after s []) (kept_after s (kept_with c k))

-- the answers of the lines that end in s
abbrev pub said : List ℕ → List ℕ → List ℕ
said [] k = []
said (c ∷ s) k = pick (eqb c 10) (answer_to k ++ said s []) (said s (kept_with c k))

-- the answer of the last line, if it is not empty
abbrev pub last_said : List ℕ → List ℕ
last_said k = pick (eqb (length k) 0) [] (answer_to k)

-- ---- input after input

kept_joined_at : (c : ℕ) (s t k : List ℕ) (b : Bool) → eqb c 10 ≡ b
    → ((k : List ℕ) → kept_after (s ++ t) k ≡ kept_after t (kept_after s k))
    → kept_after (c ∷ s ++ t) k ≡ kept_after t (kept_after (c ∷ s) k)
kept_joined_at c s t k true e ih = rw e (ih [])
kept_joined_at c s t k false e ih = rw e (ih (kept_with c k))

pub kept_joined : (s t k : List ℕ) → kept_after (s ++ t) k ≡ kept_after t (kept_after s k)
kept_joined [] t k = refl
kept_joined (c ∷ s) t k = kept_joined_at c s t k (eqb c 10) refl (kept_joined s t)

said_joined_at : (c : ℕ) (s t k : List ℕ) (b : Bool) → eqb c 10 ≡ b
    → ((k : List ℕ) → said (s ++ t) k ≡ said s k ++ said t (kept_after s k))
    → said (c ∷ s ++ t) k ≡ said (c ∷ s) k ++ said t (kept_after (c ∷ s) k)
said_joined_at c s t k true e ih =
    rw e (ap (λ (l : List ℕ). answer_to k ++ l) (ih []) ∙ sym (append_assoc (answer_to k) (said s []) (said t (kept_after s []))))
said_joined_at c s t k false e ih = rw e (ih (kept_with c k))

pub said_joined : (s t k : List ℕ) → said (s ++ t) k ≡ said s k ++ said t (kept_after s k)
said_joined [] t k = refl
said_joined (c ∷ s) t k = said_joined_at c s t k (eqb c 10) refl (said_joined s t)

-- ---- a line in front of lines

abbrev glued : List ℕ → List (List ℕ) → List (List ℕ)
glued [] ls = ls
glued (x ∷ k) ls = onto x (glued k ls)

glued_none : (x : ℕ) (k : List ℕ) → glued (x ∷ k) [] ≡ (x ∷ k) ∷ []
glued_none x [] = refl
glued_none x (y ∷ k) = ap (onto x) (glued_none y k)

glued_end : (k : List ℕ) (ls : List (List ℕ)) → glued k ([] ∷ ls) ≡ k ∷ ls
glued_end [] ls = refl
glued_end (x ∷ k) ls = ap (onto x) (glued_end k ls)

glued_more : (k : List ℕ) (c : ℕ) (ls : List (List ℕ)) → glued k (onto c ls) ≡ glued (k ++ c ∷ []) ls
glued_more [] c ls = refl
glued_more (x ∷ k) c ls = ap (onto x) (glued_more k c ls)

-- ---- the first 91 bytes are kept

keep_at : (c : ℕ) (k : List ℕ) (b : Bool) → ltb (length k) 91 ≡ b → kept_with c (take 91 k) ≡ take 91 (k ++ c ∷ [])
unfolding kept_with
keep_at c k true e =
    let h : length k < 91 = ltb-true (length k) 91 e in
    ap (λ (l : List ℕ). pick (ltb (length l) 91) (l ++ c ∷ []) l) (take_all 91 k (omega arith))
    ∙ rw (e, take_all 91 (k ++ c ∷ []) (omega (arith, length-append k (c ∷ []))))
keep_at c k false e =
    let h : 91 ≤ length k = ltb-false (length k) 91 e in
    rw (le-ltb (length (take 91 k)) 91 (omega (arith, length-take-le 91 k h)), take-append-le 91 k (c ∷ []) h)

pub keep_taken : (c : ℕ) (k : List ℕ) → kept_with c (take 91 k) ≡ take 91 (k ++ c ∷ [])
keep_taken c k = keep_at c k (ltb (length k) 91) refl

-- ---- all answers

abbrev Answers : List ℕ → List ℕ → Type 0
Answers s k = said s (take 91 k) ++ last_said (kept_after s (take 91 k)) ≡ answers_to (glued k (lines_of s))

last_some : (x : ℕ) (k : List ℕ) → last_said (x ∷ k) ≡ answer_to (x ∷ k)
last_some x k = rw (ne_eqb (suc (length k)) 0 (λ (q : suc (length k) ≡ 0). omega arith))

none_left : (k : List ℕ) → Answers [] k
unfolding lines_of answers_to
none_left [] = refl
none_left (x ∷ k) = last_some x (take 90 k) ∙ cut_answer (x ∷ k) ∙ sym (append-nil (answer_to (x ∷ k))) ∙ ap answers_to (sym (glued_none x k))

byte_left : (c : ℕ) (s k : List ℕ) (b : Bool) → eqb c 10 ≡ b → ((k : List ℕ) → Answers s k) → Answers (c ∷ s) k
unfolding lines_of answers_to
byte_left c s k true e ih =
    rw (e, glued_end k (lines_of s))
    (append_assoc (answer_to (take 91 k)) (said s []) (last_said (kept_after s []))
    ∙ ap (λ (l : List ℕ). l ++ (said s [] ++ last_said (kept_after s []))) (cut_answer k)
    ∙ ap (λ (l : List ℕ). answer_to k ++ l) (ih []))
byte_left c s k false e ih = rw (e, glued_more k c (lines_of s), keep_taken c k) (ih (k ++ c ∷ []))

all_left : (s k : List ℕ) → Answers s k
all_left [] k = none_left k
all_left (c ∷ s) k = byte_left c s k (eqb c 10) refl (all_left s)

pub all_said : (s : List ℕ) → said s [] ++ last_said (kept_after s []) ≡ output_of s
unfolding output_of
all_said s = all_left s []
