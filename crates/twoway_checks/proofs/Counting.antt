-- A walk over both factors' codes at once that counts the cells: what is left of the codes, and the counts so far.
use mathlib.Core.Path.{◌≡◌, refl, ap, ◌∙◌}
use mathlib.Core.List.{List, [], ◌∷◌, foldl}
use mathlib.Core.Logic.{◌⊎◌, inl, inr}
use Prim.Native.Nat.{ℕ, ◌+◌, ◌*◌, ◌≤◌, ◌<◌}
use native.Mathlib.Omega.{arith}
use lib.ListN.{length, get_or, length-set}
use Rattle.std.proofs.lemmas.List.{nil_from_length}
use Rattle.base.specs.Lists.{total}
use Rattle.twoway_checks.specs.Checks.{largest}
use Rattle.twoway_checks.specs.Data.{no_counts}
use Rattle.twoway_checks.specs.Inner.{Coded, keys, bump, tally}
use Rattle.twoway_checks.proofs.Keys.{key_below}
use Rattle.twoway_checks.proofs.Tallies.{count_le_total, total_bump}

-- the counts ns so far and the codes that are left give the counts of all
pub record Counting (us vs : List ℕ) (b : ℕ) (ns whole : List ℕ) : Type 0 where
  pub coded : Coded us vs b
  pub wide : length ns ≡ 36
  pub few : total ns + length us ≤ 512
  pub left : foldl bump ns (keys b us vs) ≡ whole

pub counting_starts : (us vs us' vs' : List ℕ) (b : ℕ) → Coded us vs b → us' ≡ us → vs' ≡ vs → Counting us' vs' b no_counts (tally (keys b us vs))
unfolding tally no_counts total
counting_starts us vs us' vs' b k e f = rw (e, f) (record { coded = k; wide = refl; few = omega (arith, k.few); left = refl })

-- the next reading's codes are u and v, and its cell is number k
module _ (us vs us' vs' : List ℕ) (u v b : ℕ) (ns : List ℕ) {whole : List ℕ} (now : Counting us vs b ns whole) (e : us ≡ u ∷ us') (f : vs ≡ v ∷ vs') where
  codes_here : (u < 6) × (v < b) × (b ≤ 6)
  unfolding largest
  codes_here = let c = rw (e, f) at now.coded in (omega (arith, c.below), omega (arith, c.within), c.most)

  module _ (k : ℕ) (q : k ≡ u * b + v) where
    pub place_here : k < 36
    place_here = let h = codes_here in rw q (omega (arith, key_below b 6 (6 * b) u v h.0 h.1 (omega arith), h.2))

    pub room_here : get_or ns k 0 + 1 ≤ 512
    room_here = omega (arith, count_le_total ns k, now.few, ap length e)

    pub counting_turn : Counting us' vs' b (bump ns k) whole
    unfolding largest keys
    counting_turn =
        let c = rw (e, f) at now.coded in
        record {
          coded = record { same = omega (arith, c.same); few = omega (arith, c.few); below = omega (arith, c.below); within = omega (arith, c.within); most = c.most };
          wide = length-set ns k _ ∙ now.wide;
          few = omega (arith, now.few, ap length e, total_bump ns k (rw now.wide place_here));
          left = rw q (rw (e, f) at now.left);
        }

-- none is left of one, and so none of the other
pub counting_ends : (us vs : List ℕ) (b : ℕ) (ns : List ℕ) {whole : List ℕ} → Counting us vs b ns whole → (us ≡ []) ⊎ (vs ≡ []) → ns ≡ whole
unfolding keys
counting_ends us vs b ns now (inl e) = rw e at now.left
counting_ends us vs b ns now (inr e) = rw (nil_from_length us (now.coded.same ∙ ap length e)) at now.left
