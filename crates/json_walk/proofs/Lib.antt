mod Decimal
mod NoJson
