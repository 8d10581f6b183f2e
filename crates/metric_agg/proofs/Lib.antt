mod MoreValues
