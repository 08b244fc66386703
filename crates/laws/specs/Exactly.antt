-- A word of the statements: a claim holds exactly where another does.

abbrev pub ExactlyWhere : Type 0 → Type 0 → Type 0
ExactlyWhere claim other = (claim → other) × (other → claim)
