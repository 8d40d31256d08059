use Rattle.wilfnusk.proofs.listings.wilfnusk_visibility_windows.Goals as goal

pub returns : goal.returns
returns c = let call = c.visibility_windows.ensures in
    (simp (c.int64.ensures, call.0), call.1)
