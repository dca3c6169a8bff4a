use Rattle.filter_tree.proofs.claims.Claims.claim_for.Given as goal

-- the ledger is the one that the blank begins
abbrev pub ghosts-find_from : goal.ghosts-find_from
ghosts-find_from a = record { name = a.blank.name; parts = a.blank.parts }
