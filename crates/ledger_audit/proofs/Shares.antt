-- Every share divides the unit of the stride rule.
use Rattle.std.proofs.Common.{zero, suc, arith, refl}
use Rattle.ledger_audit.specs.Laws.{SharesDivideUnit}

pub each_divides : SharesDivideUnit
each_divides zero least most = absurd (omega (arith, least))
each_divides (suc zero) least most = refl
each_divides (suc (suc zero)) least most = refl
each_divides (suc (suc (suc zero))) least most = refl
each_divides (suc (suc (suc (suc zero)))) least most = refl
each_divides (suc (suc (suc (suc (suc zero))))) least most = refl
each_divides (suc (suc (suc (suc (suc (suc zero)))))) least most = refl
each_divides (suc (suc (suc (suc (suc (suc (suc zero))))))) least most = refl
each_divides (suc (suc (suc (suc (suc (suc (suc (suc zero)))))))) least most = refl
each_divides (suc (suc (suc (suc (suc (suc (suc (suc (suc zero))))))))) least most = refl
each_divides (suc (suc (suc (suc (suc (suc (suc (suc (suc (suc zero)))))))))) least most = refl
each_divides (suc (suc (suc (suc (suc (suc (suc (suc (suc (suc (suc zero))))))))))) least most = refl
each_divides (suc (suc (suc (suc (suc (suc (suc (suc (suc (suc (suc (suc zero)))))))))))) least most = refl
each_divides (suc (suc (suc (suc (suc (suc (suc (suc (suc (suc (suc (suc (suc n))))))))))))) least most = absurd (omega (arith, most))
