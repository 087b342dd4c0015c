-- A reply's number and values tell the reply: no two answers of a call are given in the same numbers.
-- Assumes nothing.
use Rattle.std.specs.Prelude.{◌≡◌, refl, List, [], ◌∷◌, ℕ, get_or, Result, Ok, Err}
use Rattle.std.proofs.Common.{sym, ap, ◌∙◌, arith}
use Rattle.reply.specs.declared.Refusal.{Refusal}
use Rattle.reply.specs.declared.Refusal.TheVariants.{Memory, Form, Lists, Share, Largest, Sum}
use Rattle.reply.specs.declared.Refusal.TheVariants.{NoFlow, Length, Full, Clock}
use Rattle.reply.specs.Reply.{Reply, idle, done, refused, refusal, done_reply}

-- the refusal of a number and a flow
abbrev numbered : ℕ → ℕ → Refusal
numbered n f =
    get_or (Clock ∷ Memory ∷ Form ∷ Lists ∷ Share f ∷ Largest f ∷ Sum ∷ NoFlow ∷ Length ∷ Full ∷ []) n Clock

-- what `refusal` says of a refusal, and the way back
pub record Told (why : Refusal) : Type 0 where
  pub number : ℕ
  pub flow : ℕ
  pub says : refusal why ≡ refused number flow
  pub back : numbered number flow ≡ why

pub told : (why : Refusal) → Told why
told Memory = record { number = 1; flow = 0; says = refl; back = refl }
told Form = record { number = 2; flow = 0; says = refl; back = refl }
told Lists = record { number = 3; flow = 0; says = refl; back = refl }
told (Share f) = record { number = 4; flow = f; says = refl; back = refl }
told (Largest f) = record { number = 5; flow = f; says = refl; back = refl }
told Sum = record { number = 6; flow = 0; says = refl; back = refl }
told NoFlow = record { number = 7; flow = 0; says = refl; back = refl }
told Length = record { number = 8; flow = 0; says = refl; back = refl }
told Full = record { number = 9; flow = 0; says = refl; back = refl }
told Clock = record { number = 10; flow = 0; says = refl; back = refl }

-- an answer from a reply, by what stands for idle, for values and for a refusal
abbrev pub read : {A : Type 0} → A → (List ℕ → A) → (Refusal → A) → Reply → A
read still values refuse idle = still
read still values refuse (done vs) = values vs
read still values refuse (refused n f) = refuse (numbered n f)

pub read_refusal : {A : Type 0} (still : A) (values : List ℕ → A) (refuse : Refusal → A) (why : Refusal)
    → read still values refuse (refusal why) ≡ refuse why
read_refusal still values refuse why = ap (read still values refuse) (told why).says ∙ ap refuse (told why).back

-- where each answer can be read back, no two are given as one reply
pub one : {A : Type 0} (give : A → Reply) (back : Reply → A) → ((a : A) → back (give a) ≡ a)
    → (a b : A) → give a ≡ give b → a ≡ b
one give back same a b e = sym (same a) ∙ ap back e ∙ same b

abbrev done_of : Reply → Result (Unit {0}) Refusal
done_of = read (Ok tt) (λ _. Ok tt) Err

done_read : (a : Result (Unit {0}) Refusal) → done_of (done_reply a) ≡ a
done_read (Ok _) = refl
done_read (Err why) = read_refusal (Ok tt) (λ _. Ok tt) (λ w. Err w) why

pub done_reply_one : (a b : Result (Unit {0}) Refusal) → done_reply a ≡ done_reply b → a ≡ b
done_reply_one = one done_reply done_of done_read

-- no reply is of two kinds
pub refused_done : {A : Type 0} {number flow : ℕ} {values : List ℕ} → refused number flow ≡ done values → A
refused_done e = let z : ◌≡◌ {A = ℕ} 0 1 = cc in absurd (omega arith)

pub idle_done : {A : Type 0} {values : List ℕ} → idle ≡ done values → A
idle_done e = let z : ◌≡◌ {A = ℕ} 0 1 = cc in absurd (omega arith)

pub idle_refused : {A : Type 0} {number flow : ℕ} → idle ≡ refused number flow → A
idle_refused e = let z : ◌≡◌ {A = ℕ} 0 1 = cc in absurd (omega arith)
