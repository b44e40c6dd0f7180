-- How a name lies in its places.
use Rattle.std.proofs.Common.{◌≡◌, ℕ, ◌-◌, ◌≤◌, List, ◌++◌, true, length, take, replicate, ap, ◌∙◌, leb, arith}
use Rattle.std.proofs.Math.Seq.{take-append_seam}
use Rattle.std.proofs.lemmas.List.{length-replicate, drop-replicate}
use Rattle.std.proofs.lemmas.Grind.{common_steps}
use Rattle.std.proofs.lemmas.Bool.Decides.{nat_tests}
use Rattle.argos_base.specs.Spelling.{is_name, is_free_word}
use Rattle.argos_base.proofs.Bools.{and_second}
use Rattle.argos_base.specs.NamePlaces.{IsLaidOut, laid_out}

-- a name has at most 64 bytes
pub is_name-short : (bs : List ℕ) → is_name bs ≡ true → length bs ≤ 64
is_name-short bs h = let short : leb (length bs) 64 ≡ true = and_second (is_free_word bs) _ h in grind (arith, nat_tests)

-- a name lies so in its places
pub IsLaidOut-laid_out : (bs : List ℕ) → is_name bs ≡ true → IsLaidOut (laid_out bs)
IsLaidOut-laid_out bs h =
    let short = is_name-short bs h in
    let front : take (length bs) (bs ++ replicate (64 - length bs) 0) ≡ bs = take-append_seam bs (replicate (64 - length bs) 0) in
    record {
      within = short;
      full = grind (arith, common_steps);
      padded = ap (λ z. z ++ replicate (64 - length bs) 0) front;
      spelled = ap is_name front ∙ h;
    }

pub take-padded : (bs : List ℕ) (n : ℕ) → take (length bs) (bs ++ replicate n 0) ≡ bs
take-padded bs n = take-append_seam bs (replicate n 0)

pub ruleset laid_out_names = (common_steps, is_name-short, IsLaidOut-laid_out, take-padded, drop-replicate)
