-- Items that are put behind others.
use Rattle.std.proofs.Common.{◌≡◌, List, [], ◌∷◌, ◌++◌, ◌∙◌, append_assoc}

-- two items behind others, one after the other, are both behind them
pub two_more : {A : Type 0} (before between after : List A) (first second one other : A) → one ≡ first → other ≡ second → between ≡ before ++ one ∷ [] → after ≡ between ++ other ∷ [] → after ≡ before ++ first ∷ second ∷ []
two_more before between after first second one other is also more most = most ∙ rw (more, is, also) (append_assoc before (first ∷ []) (second ∷ []))
