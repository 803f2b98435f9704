pub mod Tainted
pub mod Helping
pub mod FaultTexts
pub mod Helped
pub mod Laws
pub mod Small
